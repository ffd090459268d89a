-- A walk over some bytes, said of the bytes and the place: what stands there is passed, stopped at, or the end.
-- Assumes nothing.
use Rattle.std.proofs.Common.{◌≡◌, refl, sym, ap, ◌∙◌, Bool, List, ℕ}
use Rattle.records.specs.Records.{Standing, ended, stopped, whole, stands_at, in_piece, next_from, number_of, reading_of}
use Rattle.contents.specs.declared.walk.Record.{Record}
use Rattle.contents.specs.declared.walk.Walk.{Walk}
use Rattle.contents.specs.Walks.{place_of, Passes, NoRecord, NoStop}

pub neither : (s : Standing ℕ) → NoRecord s → NoStop s → s ≡ ended
neither ended r p = refl
neither (stopped n) r p = absurd (p n refl)
neither (whole next) r p = absurd (r next refl)

module _ (w : Walk) {bytes : List ℕ} {last : Bool} (b : w.bytes.now ≡ bytes) (l : w.last ≡ last) where
  pub place_is : place_of w ≡ next_from w.at (in_piece last (stands_at bytes w.at))
  place_is = λ i. next_from w.at (in_piece (l i) (stands_at (b i) w.at))

  pub walk-ended : NoRecord (place_of w) → NoStop (place_of w) → next_from w.at (in_piece last (stands_at bytes w.at)) ≡ ended
  walk-ended r p = sym place_is ∙ neither (place_of w) r p

  pub walk-stopped : {n : ℕ} → place_of w ≡ stopped n → next_from w.at (in_piece last (stands_at bytes w.at)) ≡ stopped n
  walk-stopped e = sym place_is ∙ e

  module _ {v : Walk} {r : Record} (P : Passes w v r) where
    pub walk-passed : next_from w.at (in_piece last (stands_at bytes w.at)) ≡ whole v.at
    walk-passed = sym place_is ∙ P.stands

    pub passed-number : r.number ≡ number_of (stands_at bytes w.at)
    passed-number = P.number ∙ ap (λ (s : List ℕ). number_of (stands_at s w.at)) b

    pub passed-reading : r.reading ≡ reading_of (stands_at bytes w.at)
    passed-reading = P.reading ∙ ap (λ (s : List ℕ). reading_of (stands_at s w.at)) b

    pub passed-bytes : v.bytes.now ≡ bytes
    passed-bytes = (λ i. (P.bytes i).now) ∙ b

    pub passed-last : v.last ≡ last
    passed-last = P.last ∙ l
