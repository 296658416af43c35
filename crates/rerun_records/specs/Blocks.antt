-- Blocks: records of one procedure whose arguments go up by one in one place, with one record that has what theirs have together.
use Rattle.std.specs.Prelude.{◌≡◌, ◌⊎◌, ◌≤◌, ◌+◌, ℕ, suc, nat_eq, nat_le, ℤ, pos, ◌+ℤ◌, Bool, true, false, List, [], ◌∷◌}
use Rattle.std.specs.Prelude.{Option, Some, None, map, length, slice_get, slice_set}
use Rattle.std.specs.List.{list_any}
use Rattle.linked_program.specs.Checked.{PlainChecked}
use Rattle.meaning.specs.Elision.{depth_limit}
use Rattle.meaning.specs.Every.{every}
use Rattle.monoid_laws.specs.declared.Kind.{Kind}
use Rattle.record_theory.specs.Record.{PlainRecord, as_made}
use Rattle.record_theory.specs.Validity.{has_revision}
use Rattle.rerun_records.specs.Sums.{IsSumFor}

-- the places of records in order, which of their arguments counts up, and one record in the place of them all; whether it has what they
-- have read
pub record PlainBlock : Type 0 where
  pub places : List ℕ
  pub counted : ℕ
  pub keeps : Bool
  pub sum : PlainRecord

-- nothing that was read is counted as not held
abbrev pub is_fresh : PlainRecord → Bool
is_fresh r = nat_eq r.stale 0

abbrev pub is_some_fresh : Option PlainRecord → Bool
is_some_fresh None = false
is_some_fresh (Some r) = is_fresh r

-- a record is at that place, and nothing that it read is counted as not held
abbrev pub is_fresh_at : List PlainRecord → ℕ → Bool
is_fresh_at records place = is_some_fresh (slice_get records place)

module _ (records : List PlainRecord) (procedure : ℕ) (arguments : List ℤ) (counted : ℕ) where
  -- a record at that place, of the procedure with that number in the counted argument
  pub record IsLeaf (v : ℤ) (place : ℕ) (leaf : PlainRecord) : Type 0 where
    pub there : slice_get records place ≡ Some leaf
    pub procedure_is : leaf.procedure ≡ procedure
    pub arguments_are : leaf.arguments ≡ slice_set arguments counted v

  -- such records at those places, with that number and the next ones
  abbrev pub AreLeaves : ℤ → List ℕ → List PlainRecord → Type 0
  AreLeaves v [] [] = Unit {0}
  AreLeaves v (p ∷ ps) (r ∷ rs) = IsLeaf v p r × AreLeaves (v +ℤ pos 1) ps rs
  AreLeaves _ _ _ = ⊥

-- the records at a block's places go up by one, all are fresh, and the block's record has what they have together
pub record BlockFits (kinds : List Kind) (records : List PlainRecord) (block : PlainBlock) : Type 0 where
  pub procedure : ℕ
  pub arguments : List ℤ
  pub first : ℤ
  pub first_is : slice_get arguments block.counted ≡ Some first
  pub leaves : List PlainRecord
  pub are_leaves : AreLeaves (map as_made records) procedure arguments block.counted first block.places leaves
  pub fresh : every (is_fresh_at records) block.places ≡ true
  pub sum_is : IsSumFor block.keeps kinds leaves block.sum

-- ---- blocks by numbers: some were dropped

abbrev pub joined : Option (Option PlainBlock) → Option PlainBlock
joined None = None
joined (Some b) = b

-- the block of a number, where it is there still
abbrev pub live_at : List (Option PlainBlock) → ℕ → Option PlainBlock
live_at blocks n = joined (slice_get blocks n)

-- it is one of these
pub record IsLive (blocks : List (Option PlainBlock)) (block : PlainBlock) : Type 0 where
  pub number : ℕ
  pub there : live_at blocks number ≡ Some block

abbrev pub AllFit : List Kind → List PlainRecord → List (Option PlainBlock) → Type 0
AllFit kinds records blocks = (n : ℕ) (b : PlainBlock) → live_at blocks n ≡ Some b → BlockFits kinds records b

-- each that is there now was there before
abbrev pub Remain : List (Option PlainBlock) → List (Option PlainBlock) → Type 0
Remain now before = (n : ℕ) (b : PlainBlock) → live_at now n ≡ Some b → live_at before n ≡ Some b

-- the place is one of these
abbrev pub is_place : List ℕ → ℕ → Bool
is_place places place = list_any (nat_eq place) places

-- the record at that place is part of no block
abbrev pub IsFree : ℕ → List (Option PlainBlock) → Type 0
IsFree place blocks = (n : ℕ) (b : PlainBlock) → live_at blocks n ≡ Some b → is_place b.places place ≡ false

abbrev pub is_number : ℕ → Option ℕ → Bool
is_number number None = false
is_number number (Some home) = nat_eq home number

-- the home of the record at that place
abbrev pub is_home : List ℕ → ℕ → ℕ → Bool
is_home homes number place = is_number number (slice_get homes place)

-- each block is the home of all its records
abbrev pub AreHoused : List ℕ → List (Option PlainBlock) → Type 0
AreHoused homes blocks = (n : ℕ) (b : PlainBlock) → live_at blocks n ≡ Some b → every (is_home homes n) b.places ≡ true

-- ---- the blocks of four widths

pub record PlainBlocks : Type 0 where
  pub kinds : List Kind
  pub fine : List (Option PlainBlock)
  pub middle : List (Option PlainBlock)
  pub wide : List (Option PlainBlock)
  pub vast : List (Option PlainBlock)

pub record BlocksFit (records : List PlainRecord) (blocks : PlainBlocks) : Type 0 where
  pub fine : AllFit blocks.kinds records blocks.fine
  pub middle : AllFit blocks.kinds records blocks.middle
  pub wide : AllFit blocks.kinds records blocks.wide
  pub vast : AllFit blocks.kinds records blocks.vast

pub record BlocksRemain (now before : PlainBlocks) : Type 0 where
  pub kinds : now.kinds ≡ before.kinds
  pub fine : Remain now.fine before.fine
  pub middle : Remain now.middle before.middle
  pub wide : Remain now.wide before.wide
  pub vast : Remain now.vast before.vast

-- one of these, for reducers of those kinds
pub record IsBlock (kinds : List Kind) (blocks : PlainBlocks) (block : PlainBlock) : Type 0 where
  pub kinds_are : blocks.kinds ≡ kinds
  pub live : IsLive blocks.fine block ⊎ (IsLive blocks.middle block ⊎ (IsLive blocks.wide block ⊎ IsLive blocks.vast block))

-- the block begins at that place, counts that argument, has no more records than that, and what they have read where that is kept, and
-- answers an instance at that depth
pub record Answers (program : PlainChecked) (depth place counted most : ℕ) (keeps : Bool) (block : PlainBlock) : Type 0 where
  pub begins : slice_get block.places 0 ≡ Some place
  pub counts : block.counted ≡ counted
  pub few : length block.places ≤ most
  pub read : keeps ≡ true → block.keeps ≡ true
  pub current : every (has_revision program.revisions) block.sum.entered ≡ true
  pub fits : nat_le (depth + block.sum.height) (suc depth_limit) ≡ true
