-- What a renewal and a commit make of a cell's store.
use Rattle.std.proofs.Common.{◌≡◌, inl, inr, ⊎_elim, ℕ, ◌+◌, refl, sym, ◌∙◌, ap, arith, Result, Ok, Err, OnErr}
use Rattle.disk_trait.specs.View.{View}
use Rattle.slot_board.specs.declared.board.SlotKind.TheVariants.{Current}
use Rattle.slot_board.specs.Slots.{slot_at, told_by}
use Rattle.store_ident.specs.declared.ident.StoreId.{StoreId}
use Rattle.partition_cell.specs.declared.moving.Moving.{Moving}
use Rattle.partition_cell.specs.Cells.{Cell, IsTarget, IsKept}
use Rattle.file_kinds.specs.Kinds.{PartitionNumber}
use Rattle.partition_cell.specs.Entered.{next_id, IsLonger, HasGrown}
use Rattle.partition_cell.specs.Limits.{IsFit}
use Rattle.partition_cell.proofs.BoardLemmas.{blank_is_not_current}

-- an identifier by its parts
abbrev id_of : ℕ → ℕ → ℕ → ℕ → StoreId
id_of partition version epoch host = record { partition = partition; version = version; epoch = epoch; host = host }

-- the same identifier comes next where no more was told
pub next_same : {D : Type 0} (a b : Cell D) (host epoch : ℕ) → b.number ≡ a.number → told_by b.board ≡ told_by a.board → next_id b host epoch ≡ next_id a host epoch
next_same a b host epoch number told =
    ap (λ (p : PartitionNumber). id_of p.partition (told_by b.board + 1) epoch host) number ∙ ap (λ (v : ℕ). id_of a.number.partition (v + 1) epoch host) told

-- an identifier with the next version
pub id_at : (partition version next epoch host : ℕ) → version ≡ next → id_of partition version epoch host ≡ id_of partition next epoch host
id_at partition version next epoch host same = ap (λ (v : ℕ). id_of partition v epoch host) same

-- on the owner a store is built in the file that isn't the current one
pub other_file : {D : Type 0} (view : D → View) (cell : Cell D) → IsKept view cell → (moving : Moving) → IsTarget view cell moving → moving.host ≡ cell.owner → moving.build.file + cell.store.file ≡ 1
other_file view cell kept moving target here =
    let apart : moving.build.file ≡ cell.store.file → ⊥ = λ same.
    let current : (slot_at cell.board moving.host moving.build.file).kind ≡ Current =
    ap (λ (h : ℕ). (slot_at cell.board h moving.build.file).kind) here ∙ ap (λ (f : ℕ). (slot_at cell.board cell.owner f).kind) same ∙ kept.ordered.current in
    blank_is_not_current (sym target.blank ∙ current) in
    omega (arith, apart, target.one_of_two, kept.ordered.one_of_two)

-- a store that grew by none has grown by so many
pub grown_more : {D : Type 0} (a b c : Cell D) (epoch added : ℕ) → HasGrown a b epoch 0 → IsLonger b c added → HasGrown a c epoch added
grown_more a b c epoch added grown longer = ⊎_elim
    (λ is. inl (
      is.0,
      record {
        owner = longer.owner ∙ is.1.owner;
        id = longer.id ∙ is.1.id;
        file = longer.file ∙ is.1.file;
        end = omega (arith, longer.end, is.1.end);
        board = longer.board ∙ is.1.board;
      },
    ))
    (λ is. inr (
      is.0,
      record {
        id = longer.id ∙ is.1.id;
        other = omega (arith, longer.file, is.1.other);
        end = omega (arith, longer.end, is.1.end);
        told = ap told_by longer.board ∙ is.1.told;
      },
    ))
    grown

-- a fit cell is left as it is
pub grown_none : {D : Type 0} (cell : Cell D) (epoch : ℕ) → IsFit cell → HasGrown cell cell epoch 0
grown_none cell epoch fit = inl (fit, record { owner = refl; id = refl; file = refl; end = omega arith; board = refl })

-- a commit changes no more of the store than its end
pub longer : {D : Type 0} (a b : Cell D) (added : ℕ) → b ≡ record a { disks = b.disks; store = b.store; maps = b.maps; flight = b.flight } → b.store.id ≡ a.store.id → b.store.file ≡ a.store.file
    → b.store.end ≡ a.store.end + added → IsLonger a b added
longer a b added kept id file end = record { owner = ap (λ (x : Cell _). x.owner) kept; id = id; file = file; end = end; board = ap (λ (x : Cell _). x.board) kept }

-- a fact that holds holds at a refusal
pub where_refused : {T E : Type 0} (result : Result T E) (P : Type 0) → P → OnErr result P
where_refused (Ok value) P holds = tt
where_refused (Err refusal) P holds = holds
