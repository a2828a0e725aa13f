-- Lists of items: an item, and what follows it. Assumes nothing.
use Rattle.std.proofs.Common.{◌≡◌, ℕ, ◌+◌, ◌*◌, ◌≤◌, false, true, List, [], ◌∷◌, length, Some, None, Option, sym, refl, subst, ◌∙◌, arith}
use Rattle.meaning.specs.Text.{Token}
use Rattle.grammar.specs.Reader.{Reader, Got, gets, listed, choose, and_then, is_sign, head_is, tail_of}
use Rattle.grammar.proofs.Tools.{choose_yes, choose_no, then_is}
use Rattle.text.specs.Cut.{tokens_at}
use Rattle.text.specs.Stands.{filled, StandsList, Under}
use Rattle.text.specs.Found.{Grown, Read, Nothing, Stays, StaysWithin, StandsFirst, NodeWithin}
use Rattle.text.specs.declared.nodes.Node.{Node}
use Rattle.text.specs.declared.nodes.Nodes.{Nodes}
use Rattle.text.specs.declared.tokens.Place.{Place}
use Rattle.text.specs.declared.parts.Parsed.{Parsed}
use Rattle.text.proofs.Stood.{New, at-kept, under-on, grown-none, grown-on, grown-length}
use Rattle.text.proofs.Steps.{taken-length}

module _ {A I : Type 0} (S : List Node → A → I → Type 0) (W : I → ℕ → Type 0) (k : I → Option ℕ → Node) (b : List ℕ) (rest : Reader (List A)) where
  -- what follows an item, from the tokens us on
  pub record Follows (t u : Nodes) (us : List Token) (o : Option ℕ) (after : Place) : Type 0 where
    pub its : List A
    pub goes : (a : A) → choose (is_sign 44) (λ vs. and_then (rest vs) (λ as' ws. gets (a ∷ as') ws)) (gets (a ∷ [])) us ≡ gets (a ∷ its) (tokens_at b after)
    pub stands : (h : List Node) → Grown (filled u) h → StandsList S W k h its o
    pub within : Under o (length (filled u))
    pub grown : Grown (filled t) (filled u)
    pub few : length (filled u) + 2 * length (tokens_at b after) ≤ length (filled t) + 2 * length us

  pub follows-on : (t u v : Nodes) (us : List Token) (o p : Option ℕ) (x y : Place) → u ≡ v → o ≡ p → x ≡ y → Follows t v us p y → Follows t u us o x
  follows-on t u v us o p x y e f g r = subst (λ u. Follows t u us o x) (sym e) (subst (λ o. Follows t v us o x) (sym f) (subst (λ x. Follows t v us p x) (sym g) r))

  pub nothing-follows : (t : Nodes) (x : Place) → head_is (is_sign 44) (tokens_at b x) ≡ false → Follows t t (tokens_at b x) None x
  nothing-follows t x h = record { its = []; goes = λ a. choose_no (is_sign 44) _ _ _ h; stands = λ h up. refl; within = tt; grown = grown-none (filled t); few = omega arith }

  pub list-follows : (t u : Nodes) (us vs : List Token) (p : Parsed ℕ) → head_is (is_sign 44) us ≡ true → vs ≡ tail_of us → Read (Stays (StandsFirst S W k)) Nothing NodeWithin 1 b t u vs (rest vs) p → Follows t u us (Some p.value) p.after
  list-follows t u us vs p h e r = record {
    its = r.it;
    goes = λ a. choose_yes (is_sign 44) _ _ us vs h e ∙ then_is (λ as' ws. gets (a ∷ as') ws) r.is refl;
    stands = r.stands;
    within = r.within;
    grown = r.grown;
    few = omega (arith, r.few, taken-length (is_sign 44) us vs h e);
  }

  -- an item before what follows it
  pub chained : (t u v z : Nodes) (ts : List Token) (item : Reader A) (x : Parsed I) (o : Option ℕ) (i : ℕ) (after : Place) (g : Got (List A)) → g ≡ listed item rest ts → (r : Read (Stays S) Nothing (StaysWithin W) 3 b t u ts (item ts) x) → Follows u v (tokens_at b x.after) o after → New (filled v) (filled z) (k x.value o) i →
      Read (Stays (StandsFirst S W k)) Nothing NodeWithin 1 b t z ts g (record { value = i; after = after })
  chained t u v z ts item x o i after g e r f n = record {
    it = r.it ∷ f.its;
    is = e ∙ then_is _ r.is (f.goes r.it);
    stands = λ h up. (
      i,
      x.value,
      o,
      refl,
      at-kept (filled z) h up i _ n.at,
      r.within i (omega (arith, n.last, grown-length (filled u) (filled v) f.grown)),
      under-on o (length (filled v)) i (omega (arith, n.last)) f.within,
      r.stands h (grown-on (filled u) (filled v) h f.grown (grown-on (filled v) (filled z) h n.grown up)),
      f.stands h (grown-on (filled v) (filled z) h n.grown up),
    );
    says = tt;
    within = n.within;
    grown = grown-on (filled t) (filled u) (filled z) r.grown (grown-on (filled u) (filled v) (filled z) f.grown n.grown);
    few = omega (arith, r.few, f.few, n.more);
  }
