-- Lines of bytes: what stands between line feeds, how much of it is held, and how a closure answered each.
use Rattle.std.specs.Prelude.{◌≡◌, ◌≢◌, ℕ, ◌-◌, ◌^◌, ◌<◌, ◌≤◌, List, [], ◌∷◌, ◌++◌, map, length, take, if◌then◌else◌, ◌==◌, Option, Some, IfSome, Result, Ok, Err, All}
use Rattle.std.specs.Borrow.{Bor}
use Rattle.std.specs.Fn.{Mut, CalledAt}
use Rattle.std.specs.List.{FoldsTo, onto_first}
use Rattle.console.specs.declared.lines.TheConstants.{HELD}
use Rattle.console.specs.declared.drive.Stop.{Stop}
use Rattle.console.specs.declared.drive.Stop.TheVariants.{Cut, Failed}

-- the bytes before the first line feed, which is 10, or all of them
abbrev pub first_line : List ℕ → List ℕ
first_line [] = []
first_line (b ∷ bs) = if b == 10 then [] else b ∷ first_line bs

-- the lines of an input, without their line feeds; the last one may have none
abbrev pub lines : List ℕ → List (List ℕ)
lines [] = []
lines (b ∷ bs) = if b == 10 then [] ∷ lines bs else onto_first b (lines bs)

-- as much of a line as is held
unfoldable pub held : List ℕ → List ℕ
held line = take HELD line

-- the lines of an input, as much of each as is held
abbrev pub held_lines : List ℕ → List (List ℕ)
held_lines bytes = map held (lines bytes)

-- text may be what is held of a line
abbrev pub IsHeld : List ℕ → Type 0
IsHeld text = (length text ≤ HELD) × All (λ b. b ≢ 10) text

-- P holds of the bytes that an input has left, where they are known and fewer than a loop counts to
abbrev pub IfKnown : Option (List ℕ) → (List ℕ → Type 0) → Type 0
IfKnown left P = IfSome left (λ bytes. length bytes < 2 ^ 64 - 1 → P bytes)

-- no answer of a closure: reading failed, or memory ran out
abbrev pub IsFailed : Stop → Type 0
IsFailed Cut = ⊥
IsFailed (Failed e) = Unit {0}

module _ {F : Type 0} (g : Mut F (Bor (List ℕ) × Unit {0}) (Result (Unit {0}) Stop)) where
  -- answer was called at these texts in turn, gave Ok each time, and was left as last
  abbrev pub AnswersEach : F → List (List ℕ) → F → Type 0
  AnswersEach answer texts last = FoldsTo (λ p text q. CalledAt g p text (Ok tt) q) answer texts last

  -- answer gave Ok at texts in turn and then stop, at text; nothing was read after that
  pub record StopsByAnswer (answer : F) (old new : Option (List ℕ)) (stop : Stop) : Type 0 where
    pub texts : List (List ℕ)
    pub text : List ℕ
    pub before : F
    pub after : F
    pub answered : AnswersEach answer texts before
    pub stopped : CalledAt g before text (Err stop) after
    pub short : All IsHeld (texts ++ text ∷ [])
    pub unread : IfKnown old (λ bytes. (rest : List ℕ) × (new ≡ Some rest) × (held_lines bytes ≡ texts ++ text ∷ held_lines rest))

  -- answer gave Ok at texts in turn, which are the first lines; the next one could not be read
  pub record BreaksOff (answer : F) (old : Option (List ℕ)) (stop : Stop) : Type 0 where
    pub texts : List (List ℕ)
    pub last : F
    pub answered : AnswersEach answer texts last
    pub short : All IsHeld texts
    pub first : IfKnown old (λ bytes. (more : List (List ℕ)) × (held_lines bytes ≡ texts ++ more))
    pub failed : IsFailed stop
