-- The bytes of a file in which a store is made.
use Rattle.std.proofs.Common.{◌≡◌, ◌≢◌, ◌⊎◌, inl, inr, ⊎_elim, ℕ, suc, ◌+◌, List, [], ◌∷◌, ◌++◌, length, take, drop, sym, ◌∙◌, ap, arith, length-append, get_or}
use Rattle.std.proofs.lemmas.List.{append-nil, take_at, drop_at, take_all, drop_all}
use Rattle.std.proofs.lemmas.Bool.{cases_eq}
use Rattle.byte_fields.specs.Numbers.{bytes_of, bytes8}
use Rattle.byte_fields.proofs.NumbersLemmas.{length-bytes_of}
use Rattle.disk_trait.specs.Calls.{written}
use Rattle.record_form.specs.declared.header.Header.{Header}
use Rattle.record_form.specs.HeaderText.{IsHeader, header_text, store_format, store_magic}
use Rattle.seal_gate.specs.Seal.{ButFirst}
use Rattle.store_journal.specs.Text.{IsText}
use Rattle.store_journal.specs.Created.{IsUnsealed, IsBlank, empty_text}
use Rattle.store_journal.proofs.TextLemmas.{closed_gate_text, drop_first}

-- a first byte of zero is no seal
pub blank_is_unsealed : (bytes : List ℕ) → IsBlank bytes → IsUnsealed bytes
blank_is_unsealed bytes blank sealed = sealed.first (ap (λ (l : List ℕ). get_or l 0 0) blank.1)

-- what keeps a prefix of which the first byte is zero
pub stays_blank : (at : ℕ) (old new : List ℕ) → IsBlank old → take (suc at) new ≡ take (suc at) old → IsBlank new
stays_blank at old [] blank same = let e : [] ≡ 0 ∷ take at blank.0 = same ∙ ap (λ (l : List ℕ). take (suc at) l) blank.1 in absurd cc
stays_blank at old (byte ∷ rest) blank same =
    let e : byte ∷ take at rest ≡ 0 ∷ take at blank.0 = same ∙ ap (λ (l : List ℕ). take (suc at) l) blank.1 in
    let zero : byte ≡ 0 = cc e in
    (rest, ap (λ (first : ℕ). first ∷ rest) zero)

-- one more number of so many bytes
longer : (prefix : List ℕ) (size number so_far : ℕ) → length prefix ≡ so_far → length (prefix ++ bytes_of size number) ≡ so_far + size
longer prefix size number so_far is = omega (arith, is, length-append prefix (bytes_of size number), length-bytes_of size number)

pub length-header_text : (header : Header) → length (header_text header) ≡ 40
length-header_text header =
    longer _ 4 0 36 (longer _ 8 0 28 (longer _ 2 header.partitions 26 (longer _ 2 header.id.host 24 (longer _ 8 header.id.epoch 16
    (longer _ 8 header.id.version 8 (longer _ 2 header.id.partition 6 (longer _ 2 store_format 4 (length-bytes_of 4 store_magic))))))))

-- after the first byte
empty_parts : (header : Header) → drop 1 (empty_text 0 header) ≡ header_text header ++ 0 ∷ []
empty_parts header = ap (λ (gate : List ℕ). header_text header ++ gate) closed_gate_text

pub length-empty_text : (first : ℕ) (header : Header) → length (empty_text first header) ≡ 42
length-empty_text first header = omega (arith, length-append (header_text header) (bytes8 0), length-header_text header, length-bytes_of 1 0)

-- the two writes
pub empty_written : (old cut headed : List ℕ) (header : Header) (text : List ℕ) → IsBlank old → cut ≡ take 1 old → text ≡ header_text header → headed ≡ written cut 1 text
    → written headed 41 (0 ∷ []) ≡ empty_text 0 header
empty_written old cut headed header text blank is_cut is_text is_headed =
    let one : cut ≡ 0 ∷ [] = is_cut ∙ ap (take 1) blank.1 in
    let size : length text ≡ 40 = ap length is_text ∙ length-header_text header in
    let prefix : headed ≡ 0 ∷ text =
    is_headed ∙ ap (λ (l : List ℕ). written l 1 text) one ∙ ap (λ (l : List ℕ). 0 ∷ text ++ l) (drop_all (1 + length text) (0 ∷ []) (omega (arith, size))) ∙ append-nil (0 ∷ text) in
    let whole : written (0 ∷ text) 41 (0 ∷ []) ≡ 0 ∷ text ++ 0 ∷ [] =
    ap (λ (l : List ℕ). l ++ 0 ∷ [] ++ drop 42 (0 ∷ text)) (take_all 41 (0 ∷ text) (omega (arith, size)))
    ∙ ap (λ (l : List ℕ). 0 ∷ text ++ 0 ∷ [] ++ l) (drop_all 42 (0 ∷ text) (omega (arith, size)))
    ∙ append-nil (0 ∷ text ++ 0 ∷ []) in
    ap (λ (l : List ℕ). written l 41 (0 ∷ [])) prefix ∙ whole ∙ ap (λ (l : List ℕ). 0 ∷ l ++ 0 ∷ []) is_text ∙ ap (λ (gate : List ℕ). 0 ∷ header_text header ++ gate) (sym closed_gate_text)

-- sealed, it is a store without a group
sealed_empty : (header : Header) (bytes : List ℕ) → IsHeader header → ButFirst (empty_text 0 header) bytes → get_or bytes 0 0 ≢ 0 → IsText header [] bytes
sealed_empty header bytes limits but first =
    let rest : drop 1 bytes ≡ header_text header ++ 0 ∷ [] = but.rest ∙ empty_parts header in
    record {
      limits = limits;
      sealed = record { first = first; long = omega (arith, but.as_long, length-empty_text 0 header) };
      named = ap (λ (l : List ℕ). take 40 l) rest ∙ take_at (header_text header) (0 ∷ []) 40 (length-header_text header);
      records = ([], drop_first bytes (empty_text 0 header) but.rest ∙ ap (λ (l : List ℕ). drop 40 l) (empty_parts header) ∙ drop_at (header_text header) (0 ∷ []) 40 (length-header_text header));
    }

-- whatever a stop makes of the seal
pub torn_seal : (header : Header) (bytes : List ℕ) → IsHeader header → ButFirst (empty_text 0 header) bytes → IsUnsealed bytes ⊎ IsText header [] bytes
torn_seal header bytes limits but = ⊎_elim
    (λ zero. inl (λ sealed. sealed.first zero))
    (λ first. inr (sealed_empty header bytes limits but first))
    (cases_eq (get_or bytes 0 0) 0)

-- the seal is there
pub empty_is_text : (header : Header) (bytes : List ℕ) → IsHeader header → bytes ≡ empty_text 1 header → IsText header [] bytes
empty_is_text header bytes limits is =
    let first : get_or bytes 0 0 ≡ 1 = ap (λ (l : List ℕ). get_or l 0 0) is in
    sealed_empty header bytes limits
    (record { rest = ap (λ (l : List ℕ). drop 1 l) is; as_long = ap length is ∙ length-empty_text 1 header ∙ sym (length-empty_text 0 header) })
    (λ zero. omega (arith, first, zero))
