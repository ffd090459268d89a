-- Rule 15.5: the answer of the column figure's call, by its value or the number of a refusal.
use Rattle.std.specs.Prelude.{ℤ, Result}
use Rattle.golay.specs.declared.kinds.Refusal.{Refusal}
use Rattle.golay.specs.Answers.{Answer, answer_of}

abbrev pub column_figure_answer : Result ℤ Refusal → Answer ℤ
column_figure_answer r = answer_of (λ value. value) r
