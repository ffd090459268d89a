-- Two numbers that are opposite, told by one of them.
use Rattle.std.specs.Prelude.{◌≡◌, cond, ℤ, pos, nat_abs, neg_ℤ, ◌<ℤ◌}
use Rattle.std.specs.Int.Signed.{lt_z}

abbrev pub larger : ℤ → ℤ → ℤ
larger x y = cond (lt_z x y) y x

-- Rule 8.3: f is the first of two numbers and the second is its opposite; its size is the larger of the two, and its sign says which that is
pub record Opposites (f first second : ℤ) : Type 0 where
  pub itself : first ≡ f
  pub negated : second ≡ neg_ℤ f
  pub size : larger first second ≡ pos (nat_abs f)
  pub positive : pos 0 <ℤ f → second <ℤ first
  pub negative : f <ℤ pos 0 → first <ℤ second
  pub neither : f ≡ pos 0 → first ≡ second
