-- Names, and what tests on lists say. Assumes nothing.
use Rattle.std.proofs.Common.{◌≡◌, suc, ◌≤◌, Bool, true, false, not, ◌||◌, eqb, leb, List, [], ◌∷◌, ◌++◌, map, length, sym, refl, ap, ◌∙◌, subst, arith, length-append}
use Rattle.std.proofs.lemmas.Bool.{and_parts, and_from, cond_both, eqb-true, eq-eqb, leb-true, leb-false, le-leb, or_parts, or_from, not-true, not_from_false}
use Rattle.meaning.specs.Tree.{Name, every}
use Rattle.meaning.specs.Meaning.{keep, some, same_name}
use Rattle.meaning.specs.Doing.{apart}
use Rattle.meaning.proofs.Order.{clash}

-- names

pub name-eq : (a b : Name) → same_name a b ≡ true → a ≡ b
unfolding same_name
name-eq [] [] h = refl
name-eq [] (y ∷ b) h = clash h
name-eq (x ∷ a) [] h = clash h
name-eq (x ∷ a) (y ∷ b) h = let p = and_parts (eqb x y) (same_name a b) h in λ i. eqb-true x y p.0 i ∷ name-eq a b p.1 i

pub name-same : (a : Name) → same_name a a ≡ true
unfolding same_name
name-same [] = refl
name-same (x ∷ a) = and_from (eqb x x) (same_name a a) (eq-eqb x x refl) (name-same a)

pub name-apart : (a b : Name) → same_name a b ≡ false → same_name b a ≡ false
name-apart a b h = go (same_name b a) refl
  where
    go : (t : Bool) → same_name b a ≡ t → same_name b a ≡ false
    go true e = clash (sym (subst (λ (z : Name). same_name a z ≡ false) (name-eq b a e) h) ∙ name-same a)
    go false e = e

-- every and some

pub every-weaker : {A : Type 0} (f g : A → Bool) → ((x : A) → f x ≡ true → g x ≡ true) → (xs : List A) → every f xs ≡ true → every g xs ≡ true
unfolding every
every-weaker f g w [] h = refl
every-weaker f g w (x ∷ xs) h = let p = and_parts (f x) (every f xs) h in and_from (g x) (every g xs) (w x p.0) (every-weaker f g w xs p.1)

pub every-both : {A : Type 0} (f g h : A → Bool) → ((x : A) → f x ≡ true → g x ≡ true → h x ≡ true) → (xs : List A) → every f xs ≡ true → every g xs ≡ true → every h xs ≡ true
unfolding every
every-both f g h w [] p q = refl
every-both f g h w (x ∷ xs) p q =
    let a = and_parts (f x) (every f xs) p in
    let b = and_parts (g x) (every g xs) q in
    and_from (h x) (every h xs) (w x a.0 b.0) (every-both f g h w xs a.1 b.1)

pub every-push : {A : Type 0} (f : A → Bool) (xs : List A) (y : A) → every f xs ≡ true → f y ≡ true → every f (xs ++ (y ∷ [])) ≡ true
unfolding every
every-push f [] y h k = and_from (f y) true k refl
every-push f (x ∷ xs) y h k = let p = and_parts (f x) (every f xs) h in and_from (f x) (every f (xs ++ (y ∷ []))) p.0 (every-push f xs y p.1 k)

pub every_append : {A : Type 0} (f : A → Bool) (xs ys : List A) → every f xs ≡ true → every f ys ≡ true → every f (xs ++ ys) ≡ true
unfolding every
every_append f [] ys h k = k
every_append f (x ∷ xs) ys h k = let p = and_parts (f x) (every f xs) h in and_from (f x) (every f (xs ++ ys)) p.0 (every_append f xs ys p.1 k)

pub every_map : {A B : Type 0} (f : B → Bool) (g : A → B) (xs : List A) → every (λ x. f (g x)) xs ≡ true → every f (map g xs) ≡ true
unfolding every
every_map f g [] h = refl
every_map f g (x ∷ xs) h = let p = and_parts (f (g x)) (every (λ x. f (g x)) xs) h in and_from (f (g x)) (every f (map g xs)) p.0 (every_map f g xs p.1)

-- what holds of each holds of what is kept, and so does what it was kept by
pub every-keep : {A : Type 0} (f p : A → Bool) (xs : List A) → every f xs ≡ true → every f (keep p xs) ≡ true
unfolding every keep
every-keep f p [] h = refl
every-keep f p (x ∷ xs) h =
    let a = and_parts (f x) (every f xs) h in
    cond_both (p x) (x ∷ keep p xs) (keep p xs) (λ ls. every f ls ≡ true) (λ _. and_from (f x) (every f (keep p xs)) a.0 (every-keep f p xs a.1)) (λ _. every-keep f p xs a.1)

pub keep-passes : {A : Type 0} (p : A → Bool) (xs : List A) → every p (keep p xs) ≡ true
unfolding every keep
keep-passes p [] = refl
keep-passes p (x ∷ xs) = cond_both (p x) (x ∷ keep p xs) (keep p xs) (λ ls. every p ls ≡ true) (λ e. and_from (p x) (every p (keep p xs)) e (keep-passes p xs)) (λ _. keep-passes p xs)

keep-length : {A : Type 0} (p : A → Bool) (xs : List A) → length (keep p xs) ≤ length xs
unfolding keep
keep-length p [] = omega arith
keep-length p (x ∷ xs) = let h = keep-length p xs in cond_both (p x) (x ∷ keep p xs) (keep p xs) (λ ls. length ls ≤ suc (length xs)) (λ _. omega arith) (λ _. omega arith)

pub none-keep : {A : Type 0} (f p : A → Bool) (xs : List A) → some f xs ≡ false → some f (keep p xs) ≡ false
unfolding some keep
none-keep f p [] h = refl
none-keep f p (x ∷ xs) h =
    let a = or_parts (f x) (some f xs) h in
    cond_both (p x) (x ∷ keep p xs) (keep p xs) (λ ls. some f ls ≡ false) (λ _. or_from (f x) (some f (keep p xs)) a.0 (none-keep f p xs a.1)) (λ _. none-keep f p xs a.1)

pub some-map : {A B : Type 0} (f : B → Bool) (g : A → B) (xs : List A) → some f (map g xs) ≡ some (λ x. f (g x)) xs
unfolding some
some-map f g [] = refl
some-map f g (x ∷ xs) = ap (λ (b : Bool). f (g x) || b) (some-map f g xs)

pub none-every : {A : Type 0} (f : A → Bool) (xs : List A) → some f xs ≡ false → every (λ x. not (f x)) xs ≡ true
unfolding some every
none-every f [] h = refl
none-every f (x ∷ xs) h = let a = or_parts (f x) (some f xs) h in and_from (not (f x)) (every (λ x. not (f x)) xs) (not_from_false (f x) a.0) (none-every f xs a.1)

-- names apart

none-push : (n m : Name) (ns : List Name) → some (same_name n) ns ≡ false → same_name n m ≡ false → some (same_name n) (ns ++ (m ∷ [])) ≡ false
unfolding some
none-push n m [] h k = or_from (same_name n m) false k refl
none-push n m (x ∷ ns) h k = let a = or_parts (same_name n x) (some (same_name n) ns) h in or_from (same_name n x) (some (same_name n) (ns ++ (m ∷ []))) a.0 (none-push n m ns a.1 k)

apart-push : (n : Name) (ns : List Name) → apart ns ≡ true → some (same_name n) ns ≡ false → apart (ns ++ (n ∷ [])) ≡ true
unfolding apart some
apart-push n [] h k = refl
apart-push n (m ∷ ns) h k =
    let a = and_parts (not (some (same_name m) ns)) (apart ns) h in
    let b = or_parts (same_name n m) (some (same_name n) ns) k in
    and_from (not (some (same_name m) (ns ++ (n ∷ [])))) (apart (ns ++ (n ∷ []))) (not_from_false (some (same_name m) (ns ++ (n ∷ []))) (none-push m n ns (not-true (some (same_name m) ns) a.0) (name-apart n m b.0))) (apart-push n ns a.1 b.1)

pub apart-keep : {A : Type 0} (g : A → Name) (p : A → Bool) (xs : List A) → apart (map g xs) ≡ true → apart (map g (keep p xs)) ≡ true
unfolding apart keep
apart-keep g p [] h = refl
apart-keep g p (x ∷ xs) h =
    let a = and_parts (not (some (same_name (g x)) (map g xs))) (apart (map g xs)) h in
    let none : some (same_name (g x)) (map g (keep p xs)) ≡ false = some-map (same_name (g x)) g (keep p xs) ∙ none-keep (λ y. same_name (g x) (g y)) p xs (sym (some-map (same_name (g x)) g xs) ∙ not-true (some (same_name (g x)) (map g xs)) a.0) in
    cond_both (p x) (x ∷ keep p xs) (keep p xs) (λ ls. apart (map g ls) ≡ true)
    (λ _. and_from (not (some (same_name (g x)) (map g (keep p xs)))) (apart (map g (keep p xs))) (not_from_false (some (same_name (g x)) (map g (keep p xs))) none) (apart-keep g p xs a.1))
    (λ _. apart-keep g p xs a.1)

map_push : {A : Type 0} (g : A → Name) (xs : List A) (y : A) → map g (xs ++ (y ∷ [])) ≡ map g xs ++ (g y ∷ [])
map_push g [] y = refl
map_push g (x ∷ xs) y = ap (λ z. g x ∷ z) (map_push g xs y)

pub apart-add : {A : Type 0} (g : A → Name) (xs : List A) (y : A) → apart (map g xs) ≡ true → some (λ x. same_name (g y) (g x)) xs ≡ false → apart (map g (xs ++ (y ∷ []))) ≡ true
apart-add g xs y h k = ap apart (map_push g xs y) ∙ apart-push (g y) (map g xs) h (some-map (same_name (g y)) g xs ∙ k)

pub few-push : {A : Type 0} (xs : List A) (y : A) → leb 64 (length xs) ≡ false → leb (length (xs ++ (y ∷ []))) 64 ≡ true
few-push xs y h = let l = leb-false 64 (length xs) h in le-leb (length (xs ++ (y ∷ []))) 64 (simp length-append (omega arith))

pub few-keep : {A : Type 0} (p : A → Bool) (xs : List A) → leb (length xs) 64 ≡ true → leb (length (keep p xs)) 64 ≡ true
few-keep p xs h = let l = leb-true (length xs) 64 h in let k = keep-length p xs in le-leb (length (keep p xs)) 64 (omega arith)
