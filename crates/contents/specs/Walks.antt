-- Rules 12.2 and 12.3: a walk over the records of some bytes, one after the other.
use Rattle.std.specs.Prelude.{◌≡◌, ℕ, ◌-◌, length, Option, IfSome, IfNone}
use Rattle.records.specs.Records.{Standing, stopped, whole, stands_at, in_piece, next_from, number_of, reading_of}
use Rattle.contents.specs.declared.walk.Record.{Record}
use Rattle.contents.specs.declared.walk.Walk.{Walk}

-- what stands where a walk has come to, by the place after it
abbrev pub place_of : Walk → Standing ℕ
place_of w = next_from w.at (in_piece w.last (stands_at w.bytes.now w.at))

-- a walk, and the same past the record that stands there
pub record Passes (before after : Walk) (r : Record) : Type 0 where
  pub stands : place_of before ≡ whole after.at
  pub bytes : after.bytes ≡ before.bytes
  pub last : after.last ≡ before.last
  pub number : r.number ≡ number_of (stands_at before.bytes.now before.at)
  pub reading : r.reading ≡ reading_of (stands_at before.bytes.now before.at)

-- no whole record, and no stop
abbrev pub NoRecord : Standing ℕ → Type 0
NoRecord s = (next : ℕ) → s ≡ whole next → ⊥

abbrev pub NoStop : Standing ℕ → Type 0
NoStop s = (n : ℕ) → s ≡ stopped n → ⊥

-- one step of a walk: past the record that stands there; or none, where none does, and the walk stays
pub record Steps (before : Walk) (r : Option Record) (after : Walk) : Type 0 where
  pub passes : IfSome r (λ s. Passes before after s)
  pub same : IfNone r (after ≡ before)
  pub none : IfNone r (NoRecord (place_of before))

-- how many bytes are left to it
abbrev pub left_of : Walk → ℕ
left_of w = length w.bytes.now - w.at
