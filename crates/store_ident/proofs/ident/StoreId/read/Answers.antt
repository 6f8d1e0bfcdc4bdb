-- Each number that is missing, or is out of its range, is the first fault of the text.
use Rattle.std.proofs.lemmas.Result.{err_from_is_err_and}
use Rattle.store_ident.proofs.FieldLemmas.{handed_on, no_partition, no_version, no_epoch, no_host, partition_out, version_out, epoch_out, host_out, all_in}
use Rattle.store_ident.proofs.ident.StoreId.read.Goals as goal

pub returns-in_err-partition : goal.returns-in_err-partition
returns-in_err-partition c =
    let p = err_from_is_err_and c.from_residual.result c.from_residual.ensures.1 in
    handed_on c.args.text.now c.from_residual.result p.0 c.in_err-partition.field-0.0 p.1 p.2
    (no_partition c.args.text.now c.in_err-partition.field-0.0 c.in_err-partition.ensures)

pub returns-in_err-version : goal.returns-in_err-version
returns-in_err-version c =
    let p = err_from_is_err_and c.from_residual-in_err-version.result c.from_residual-in_err-version.ensures.1 in
    handed_on c.args.text.now c.from_residual-in_err-version.result p.0 c.in_err-version.field-0.0 p.1 p.2
    (no_version c.args.text.now c.in_ok-partition.partition c.in_ok-partition.ensures c.in_err-version.field-0.0 c.in_err-version.ensures)

pub returns-in_err-epoch : goal.returns-in_err-epoch
returns-in_err-epoch c =
    let p = err_from_is_err_and c.from_residual-in_err-epoch.result c.from_residual-in_err-epoch.ensures.1 in
    handed_on c.args.text.now c.from_residual-in_err-epoch.result p.0 c.in_err-epoch.field-0.0 p.1 p.2
    (no_epoch c.args.text.now c.in_ok-partition.partition c.in_ok-partition.ensures c.in_ok-version.version c.in_ok-version.ensures c.in_err-epoch.field-0.0 c.in_err-epoch.ensures)

pub returns-in_err-host : goal.returns-in_err-host
returns-in_err-host c =
    let p = err_from_is_err_and c.from_residual-in_err-host.result c.from_residual-in_err-host.ensures.1 in
    handed_on c.args.text.now c.from_residual-in_err-host.result p.0 c.in_err-host.field-0.0 p.1 p.2
    (no_host c.args.text.now c.in_ok-partition.partition c.in_ok-partition.ensures c.in_ok-version.version c.in_ok-version.ensures c.in_ok-epoch.epoch c.in_ok-epoch.ensures c.in_err-host.field-0.0 c.in_err-host.ensures)

pub returns-in_err-partition_number : goal.returns-in_err-partition_number
returns-in_err-partition_number c =
    let p = err_from_is_err_and c.from_residual-in_err-partition_number.result c.from_residual-in_err-partition_number.ensures.1 in
    handed_on c.args.text.now c.from_residual-in_err-partition_number.result p.0 c.in_err-partition_number.field-0.0 p.1 p.2
    (partition_out c.args.text.now c.in_ok-partition.partition c.in_ok-partition.ensures c.in_ok-version.version c.in_ok-version.ensures c.in_ok-epoch.epoch c.in_ok-epoch.ensures c.in_ok-host.host c.in_ok-host.ensures c.in_err-partition_number.field-0.0 c.in_err-partition_number.ensures)

pub returns-in_err-version_number : goal.returns-in_err-version_number
returns-in_err-version_number c =
    let p = err_from_is_err_and c.from_residual-in_err-version_number.result c.from_residual-in_err-version_number.ensures.1 in
    handed_on c.args.text.now c.from_residual-in_err-version_number.result p.0 c.in_err-version_number.field-0.0 p.1 p.2
    (version_out c.args.text.now c.in_ok-partition.partition c.in_ok-partition.ensures c.in_ok-version.version c.in_ok-version.ensures c.in_ok-epoch.epoch c.in_ok-epoch.ensures c.in_ok-host.host c.in_ok-host.ensures c.in_ok-partition_number.partition_number c.in_ok-partition_number.ensures c.in_err-version_number.field-0.0 c.in_err-version_number.ensures)

pub returns-in_err-epoch_number : goal.returns-in_err-epoch_number
returns-in_err-epoch_number c =
    let p = err_from_is_err_and c.from_residual-in_err-epoch_number.result c.from_residual-in_err-epoch_number.ensures.1 in
    handed_on c.args.text.now c.from_residual-in_err-epoch_number.result p.0 c.in_err-epoch_number.field-0.0 p.1 p.2
    (epoch_out c.args.text.now c.in_ok-partition.partition c.in_ok-partition.ensures c.in_ok-version.version c.in_ok-version.ensures c.in_ok-epoch.epoch c.in_ok-epoch.ensures c.in_ok-host.host c.in_ok-host.ensures c.in_ok-partition_number.partition_number c.in_ok-partition_number.ensures c.in_ok-version_number.version_number c.in_ok-version_number.ensures c.in_err-epoch_number.field-0.0 c.in_err-epoch_number.ensures)

pub returns-in_err-host_number : goal.returns-in_err-host_number
returns-in_err-host_number c =
    let p = err_from_is_err_and c.from_residual-in_err-host_number.result c.from_residual-in_err-host_number.ensures.1 in
    handed_on c.args.text.now c.from_residual-in_err-host_number.result p.0 c.in_err-host_number.field-0.0 p.1 p.2
    (host_out c.args.text.now c.in_ok-partition.partition c.in_ok-partition.ensures c.in_ok-version.version c.in_ok-version.ensures c.in_ok-epoch.epoch c.in_ok-epoch.ensures c.in_ok-host.host c.in_ok-host.ensures c.in_ok-partition_number.partition_number c.in_ok-partition_number.ensures c.in_ok-version_number.version_number c.in_ok-version_number.ensures c.in_ok-epoch_number.epoch_number c.in_ok-epoch_number.ensures c.in_err-host_number.field-0.0 c.in_err-host_number.ensures)

pub returns : goal.returns
returns c = all_in c.args.text.now c.in_ok-partition.partition c.in_ok-partition.ensures c.in_ok-version.version c.in_ok-version.ensures c.in_ok-epoch.epoch c.in_ok-epoch.ensures c.in_ok-host.host c.in_ok-host.ensures c.in_ok-partition_number.partition_number c.in_ok-partition_number.ensures c.in_ok-version_number.version_number c.in_ok-version_number.ensures c.in_ok-epoch_number.epoch_number c.in_ok-epoch_number.ensures c.in_ok-host_number.host_number c.in_ok-host_number.ensures
