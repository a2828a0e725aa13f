-- One byte more, with its quotes doubled.
use Rattle.std.proofs.Common.{◌≡◌, ℕ, ◌+◌, ◌<◌, List, [], ◌∷◌, ◌++◌, length, get_or, take, sym, ap, ◌∙◌, append_assoc, append-nil, ◌≤◌, take_all}
use Rattle.std.proofs.lemmas.List.{take_more}
use Rattle.console.specs.Text.{twice, doubled}

doubled-push : (xs : List ℕ) (b : ℕ) → doubled (xs ++ (b ∷ [])) ≡ doubled xs ++ twice b
unfolding doubled
doubled-push [] b = append-nil (twice b)
doubled-push (x ∷ xs) b = ap (λ l. twice x ++ l) (doubled-push xs b) ∙ sym (append_assoc (twice x) (doubled xs) (twice b))

pub doubled-none : (start : List ℕ) → start ≡ start ++ doubled []
unfolding doubled
doubled-none start = sym (append-nil start)

pub doubled-more : (start out next text : List ℕ) (i : ℕ) → i < length text → out ≡ start ++ doubled (take i text) → next ≡ out ++ twice (get_or text i 0) → next ≡ start ++ doubled (take (i + 1) text)
doubled-more start out next text i h p q =
    q ∙ ap (λ l. l ++ twice (get_or text i 0)) p ∙ append_assoc start (doubled (take i text)) (twice (get_or text i 0)) ∙ ap (λ l. start ++ l) (sym (ap doubled (take_more text i 0 h) ∙ doubled-push (take i text) (get_or text i 0)))

-- all of the text is doubled
pub doubled-all : (start out text : List ℕ) (i : ℕ) → length text ≤ i → out ≡ start ++ doubled (take i text) → out ≡ start ++ doubled text
doubled-all start out text i h p = p ∙ ap (λ l. start ++ doubled l) (take_all i text h)
