-- A map is made ready for a mutation, and the cell is kept.
use Rattle.std.proofs.Common.{◌≡◌, List, [], ◌∷◌, Some, None, sym, ◌∙◌, subst}
use Rattle.cache_model.specs.Caches.{Caches}
use Rattle.cache_model.specs.Change.{Change, reset}
use Rattle.cache_model.proofs.ContentsLemmas.{same_contents}
use Rattle.cache_model.proofs.SameLemmas.{same_itself}
use Rattle.disk_trait.specs.View.{View}
use Rattle.file_kinds.specs.Order.{AreOfKind}
use Rattle.partition_map.specs.After.{AgreesWith}
use Rattle.partition_map.specs.Extents.{Maps, caches_in}
use Rattle.partition_cell.specs.Cells.{Cell, IsKept, IsResting, caches_of, flight_of}

module _ {D : Type 0} (view : D → View) (cell : Cell D) (kept : IsKept view cell) (maps : Maps) (agrees : (changes : List Change) → AgreesWith changes cell.maps → AgreesWith changes maps) where
  -- the contents are the same list
  pub ready_same : caches_in maps.extents ≡ caches_of cell
  ready_same =
      same_contents kept.changes kept.changes (caches_in maps.extents) (caches_of cell) (same_itself kept.changes)
      (agrees kept.changes kept.agrees).contents kept.agrees.contents

  pub ready_kept : cell.moving ≡ None → IsKept view (record {
    disks = cell.disks;
    board = cell.board;
    number = cell.number;
    owner = cell.owner;
    store = cell.store;
    maps = maps;
    flight = cell.flight;
    moving = cell.moving;
  })
  ready_kept still = record {
    hosts = kept.hosts;
    least = kept.least;
    most = kept.most;
    by_host = kept.by_host;
    ordered = kept.ordered;
    version = kept.version;
    of_partition = kept.of_partition;
    kinds = subst (λ (c : Caches). AreOfKind view cell.disks cell.board cell.number (reset c ∷ []) (flight_of cell)) (sym ready_same) kept.kinds;
    changes = kept.changes;
    agrees = agrees kept.changes kept.agrees;
    rests = λ none disk at. subst (λ (c : Caches). IsResting (view disk) cell.number cell.store (reset c ∷ [])) (sym ready_same) (kept.rests none disk at);
    moves = λ moving is. let wrong : Some moving ≡ None = sym is ∙ still in absurd (cc wrong);
  }
