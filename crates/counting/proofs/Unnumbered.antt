-- A run that tells nothing of the previous number is the same after any; and where what it tells goes by no offset either, at any.
-- Assumes nothing.
use mathlib.Core.Path.{◌≡◌, refl, ap, ◌∙◌}
use mathlib.Core.Bool.{Bool}
use mathlib.Core.List.{List}
use Prim.Native.Nat.{ℕ, zero, suc, ◌+◌}
use lib.ListN.{length, drop}
use Rattle.std.specs.Prelude.{Option}
use Rattle.sequence.specs.Sequence.{previous_after}
use Rattle.records.specs.Records.{Record, record_length, Standing, ended, stopped, whole, standing, in_piece}
use Rattle.records.specs.Capture.{Telling, run_at, run_in, run_from}
use Rattle.counting.specs.Reports.{readings, came}

-- what is told goes by no previous number, and is the same at two offsets that count as the same
pub record Unnumbered {A : Type 0} (t : Telling A) (Same : ℕ → ℕ → Type 0) : Type 0 where
  pub further : (n i j : ℕ) → Same i j → Same (i + n) (j + n)
  pub at_end_lem : (p q : Option ℕ) (i j : ℕ) → Same i j → t.at_end p i ≡ t.at_end q j
  pub at-stop : (n : ℕ) (p q : Option ℕ) (i j : ℕ) → Same i j → t.at_stop n p i ≡ t.at_stop n q j
  pub at_record_lem : (p q : Option ℕ) (r : Record) (later : A) → t.at_record p r later ≡ t.at_record q r later

module _ {A : Type 0} {t : Telling A} {Same : ℕ → ℕ → Type 0} (U : Unnumbered t Same) (last : Bool) where
  in_any : (fuel : ℕ) (p q : Option ℕ) (i j : ℕ) → Same i j → (left : List ℕ) → run_in t last fuel p i left ≡ run_in t last fuel q j left
  unfolding run_in
  in_any zero p q i j h left = U.at_end_lem p q i j h
  in_any (suc fuel) p q i j h left =
      cases (in_piece last (standing left))
      (λ r.
      let n = record_length r in
      in_any fuel (previous_after p r.number) (previous_after q r.number) (i + n) (j + n) (U.further n i j h) (drop n left))
    where
      later : Option ℕ → ℕ → Record → A
      later number k r = run_in t last fuel (previous_after number r.number) (k + record_length r) (drop (record_length r) left)

      cases : (s : Standing Record)
          → ((r : Record) → later p i r ≡ later q j r)
          → run_at t last p i (later p i) s ≡ run_at t last q j (later q j) s
      cases ended tail = U.at_end_lem p q i j h
      cases (stopped n) tail = U.at-stop n p q i j h
      cases (whole r) tail = U.at_record_lem p q r (later p i r) ∙ ap (t.at_record q r) (tail r)

  after_any : (p q : Option ℕ) (i j : ℕ) → Same i j → (left : List ℕ) → run_from t last p i left ≡ run_from t last q j left
  after_any p q i j h left = in_any (length left) p q i j h left

-- the readings of a capture, and how its run ended
pub readings_anywhere :
    (last : Bool) (p q : Option ℕ) (i j : ℕ) (left : List ℕ) → run_from readings last p i left ≡ run_from readings last q j left
readings_anywhere last p q i j left =
    after_any {Same = λ i j. Unit {0}}
    (record {
      further = λ n i j h. tt;
      at_end_lem = λ p q i j h. refl;
      at-stop = λ n p q i j h. refl;
      at_record_lem = λ p q r later. refl;
    })
    last p q i j tt left

pub came_after_any : (last : Bool) (p q : Option ℕ) (offset : ℕ) (left : List ℕ) → run_from came last p offset left ≡ run_from came last q offset left
came_after_any last p q offset left =
    after_any {Same = λ i j. i ≡ j}
    (record {
      further = λ n i j h. ap (λ (k : ℕ). k + n) h;
      at_end_lem = λ p q i j h. ap (λ (k : ℕ). came.at_end q k) h;
      at-stop = λ n p q i j h. ap (λ (k : ℕ). came.at_stop n q k) h;
      at_record_lem = λ p q r later. refl;
    })
    last p q offset offset refl left
