use Rattle.file_kinds.proofs.KindLemmas.{freed_fits}
use Rattle.file_kinds.proofs.laws.freed_files_keep_their_kind.Goals as goal

pub returns-clause-kept : goal.returns-clause-kept
returns-clause-kept c number changes flight kind version old new past fits freed = freed_fits number changes flight kind version old new past fits freed
