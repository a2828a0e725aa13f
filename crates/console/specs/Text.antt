-- The text of values and answers.
use Rattle.std.specs.Prelude.{ℕ, cond, List, [], ◌∷◌, ◌++◌, codes, decimal, ◌==◌}
use Rattle.std.specs.Fmt.{signed_decimal}
use Rattle.session.specs.declared.Value.{Value}
use Rattle.session.specs.declared.Value.TheVariants.{Null, Number, Text}
use Rattle.session.specs.declared.Reply.{Reply}
use Rattle.session.specs.declared.Reply.TheVariants.{No, Done, Begun, Row, End, Full}

-- a quote twice, any other byte as it is
abbrev pub twice : ℕ → List ℕ
twice b = cond (b == 39) (39 ∷ 39 ∷ []) (b ∷ [])

-- each quote twice
unfoldable pub doubled : List ℕ → List ℕ
doubled [] = []
doubled (b ∷ bs) = twice b ++ doubled bs

-- a text in single quotes
abbrev pub quoted : List ℕ → List ℕ
quoted text = (39 ∷ []) ++ (doubled text ++ (39 ∷ []))

-- a value, with the bytes beside it
abbrev pub value_text : Value → List ℕ → List ℕ
value_text Null text = codes "null"
value_text (Number n) text = signed_decimal n
value_text Text text = quoted text

-- a value of a row, and the bar after it
abbrev pub cell_text : Value → List ℕ → List ℕ
cell_text v text = value_text v text ++ (124 ∷ [])

-- the line that answers a call; 10 is the line feed
abbrev pub reply_text : Reply → List ℕ → List ℕ
reply_text (No k) row = codes "no " ++ (decimal k ++ (10 ∷ []))
reply_text (Done n) row = codes "done " ++ (decimal n ++ (10 ∷ []))
reply_text Begun row = codes "begun" ++ (10 ∷ [])
reply_text Row row = (124 ∷ []) ++ (row ++ (10 ∷ []))
reply_text End row = codes "end" ++ (10 ∷ [])
reply_text Full row = codes "full" ++ (10 ∷ [])
