-- A list with another number of items than 1 is not the list of one host.
use Rattle.std.proofs.Common.{◌≡◌, sym, ap, ◌∙◌, arith}
use Rattle.serde_json.specs.Data.{string, array}
use Rattle.serde_json.specs.View.{view, items_view}
use Rattle.script_lines.proofs.ShapeLemmas.{as_array-array, not_of_one}
use Rattle.script_lines.proofs.texts.only_host_of.Goals as goal
use Rattle.script_lines.proofs.texts.only_host_of.Goals.{in_default-as_slice-via-then-as_slice-lt1, in_default-as_slice-via-else-as_slice-lt1+else-this-lt2}

pub returns-in_default-as_slice : goal.returns-in_default-as_slice
returns-in_default-as_slice c =
    let there : view c.args.value.now ≡ array (items_view c.as_slice.result.now) = as_array-array _ _ (sym c.in-Some.ensures) ∙ ap (λ vs. array (items_view vs)) (sym c.as_slice.ensures.value) in
    elim c.in_default-as_slice.branch [
      | in_default-as_slice-via-then-as_slice-lt1 w ↦ λ host is. not_of_one _ _ (string host) there (λ one. grind arith) is.is
      | in_default-as_slice-via-else-as_slice-lt1+else-this-lt2 w ↦ λ host is. not_of_one _ _ (string host) there (λ one. grind arith) is.is
    ]
