-- Rules 13.7 and 13.9: the worked captures, as bytes.
use Rattle.std.specs.Prelude.{List, [], ◌∷◌, ◌++◌, ℕ, zero, suc}
use Rattle.code.specs.Code.{positions}

-- n confidences of one value, 0 to 255, as bytes
abbrev pub repeated : ℕ → ℕ → List ℕ
repeated zero value = []
repeated (suc n) value = 0 ∷ 0 ∷ 0 ∷ value ∷ repeated n value

-- Rule 12.1: the records of a reading of one value; a new one with a number, 0 to 255
abbrev pub old_record : ℕ → List ℕ
old_record value = 0x49 ∷ 0x43 ∷ repeated positions value

abbrev pub new_record : ℕ → ℕ → List ℕ
new_record number value = 0x49 ∷ 0x44 ∷ 0 ∷ number ∷ repeated positions value

-- Rule 13.7: a record of 1s, a record of 0s, and half a mark
abbrev pub worked_capture : List ℕ
worked_capture = old_record 1 ++ old_record 0 ++ (0x49 ∷ [])

-- Rule 13.9: new records of 1s
abbrev pub worked_numbered : List ℕ
worked_numbered = new_record 7 1 ++ new_record 9 1 ++ new_record 9 1 ++ new_record 8 1
