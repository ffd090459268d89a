-- Rule 11.1: the number of each reason, and when it applies.
use Rattle.std.specs.Prelude.{ℕ}
use Rattle.golay.specs.declared.kinds.Refusal.{Refusal}
use Rattle.golay.specs.declared.kinds.Refusal.TheVariants.{WrongLength, MostNegative, MessageAbove, WordAbove, NotCodeword, Tied, DistanceFour, NotDistanceFour, NoMark, CutShort, ClassAbove, CountFull, Unsettled, NoColumn}

abbrev pub number : Refusal → ℕ
-- a reading has other than 24 confidences, a buffer for a codeword other than 3 bytes, the slots for candidates are other than 6, or a table
-- has other than 4,096 counts
number WrongLength = 1
-- some confidence equals -2,147,483,648
number MostNegative = 2
-- a message exceeds 4,095
number MessageAbove = 3
-- a word, or a pattern to be applied, exceeds 16,777,215
number WordAbove = 4
-- a word of 24 bits that is to be read, or to be written as bytes, is no codeword
number NotCodeword = 5
-- no one word is best (7.4, 9.7)
number Tied = 6
-- a word to be corrected is at distance 4 from the code
number DistanceFour = 7
-- a word whose candidates are wanted is nearer to the code than 4
number NotDistanceFour = 8
-- a record begins without the mark (12.3)
number NoMark = 9
-- a record is not there as a whole (12.3)
number CutShort = 10
-- a class number exceeds 127
number ClassAbove = 11
-- to count a reading would take a count or the total of reserves past its end (18.3)
number CountFull = 12
-- a reading has zeros, and they leave the quick decoder's answer open (9.8)
number Unsettled = 14
-- a column number is not 1 to 6
number NoColumn = 18
