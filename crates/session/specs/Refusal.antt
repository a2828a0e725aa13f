-- The numbers of refusals.
use Rattle.std.specs.Prelude.{ℕ}
use Rattle.session.specs.declared.refusal.Refusal.{Refusal}
use Rattle.session.specs.declared.refusal.Refusal.TheVariants.{Unread, TooMuch, NotBuilt, NoQuery}
use Rattle.text.specs.declared.parts.Refusal as text
use Rattle.text.specs.declared.parts.Refusal.TheVariants as unread

abbrev pub number_of : Refusal → ℕ
number_of Unread = 1
number_of TooMuch = 10
number_of NotBuilt = 12
number_of NoQuery = 13

-- what is said of a text that was not read
abbrev pub told : text.Refusal → Refusal
told unread.Unread = Unread
told unread.TooLong = TooMuch
