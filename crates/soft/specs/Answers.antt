-- Rule 15.5: the answers of the soft calls, by their values or the number of a refusal.
use Rattle.std.specs.Prelude.{ℤ, Result}
use Rattle.golay.specs.declared.kinds.Refusal.{Refusal}
use Rattle.golay.specs.Answers.{Answer, answer_of}
use Rattle.soft.specs.declared.kinds.Soft.{Soft}

-- Rule 15.5: the values as they are, or the number
abbrev pub soft_answer : Result Soft Refusal → Answer Soft
soft_answer r = answer_of (λ values. values) r

-- Rule 15.5: the figure, or the number
abbrev pub class_figure_answer : Result ℤ Refusal → Answer ℤ
class_figure_answer r = answer_of (λ value. value) r
