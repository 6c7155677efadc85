-- How steps of a parse compose.
use Rattle.std.proofs.Common.{◌≡◌, ℕ, zero, suc, ◌<◌, ◌≤◌, max, Bool, true, false, cond, T, eqb, List, [], ◌++◌, length, IsErrAnd, Ok, Err, Result, sym, refl, ap, ◌∙◌, subst, ap₂, append_assoc, append-nil, arith, eqb→eq}
use native.Mathlib.Decide.{dec_lt}
use Rattle.std.proofs.lemmas.List.{get_or_past}
use Rattle.std.proofs.lemmas.Result.{err_from_is_err_and}
use Rattle.letters.specs.declared.kind.Kind.{Kind}
use Rattle.letters.specs.declared.kind.Kind.TheVariants.{End}
use Rattle.letters.specs.declared.token.Token.{Token}
use Rattle.letters.specs.Kinds.{number, same_kind}
use Rattle.grammar.specs.declared.misplaced.Misplaced.{Misplaced}
use Rattle.grammar.specs.Parsers.{look_in, is_a, Ans, done, fault, P, then, give, stop, next, seq, when, wanted}
use Rattle.grammar.specs.Trees.{look_of}
use Rattle.grammar.specs.Held.{Held, look, sheet, Lasts, Taken, Any, Comes, Told, Went, Bumped}

-- lasting
pub lasts-refl : (s : Held) → Lasts s s
lasts-refl s = record { same = refl; added = ([], sym (append-nil s.nodes)); rules = refl }

pub lasts_on : {s s1 s2 : Held} → Lasts s s1 → Lasts s1 s2 → Lasts s s2
lasts_on {s} {s1} {s2} a b = record {
  same = b.same ∙ a.same;
  added = (a.added.0 ++ b.added.0, b.added.1 ∙ ap (λ ns. ns ++ b.added.0) a.added.1 ∙ append_assoc s.nodes a.added.0 b.added.0);
  rules = b.rules ∙ a.rules;
}

look-same : {s s1 : Held} → Lasts s s1 → look s1 ≡ look s
look-same h = ap look_of h.same

-- a parse that answers as another does
told-as : {A X : Type 0} (R : Held → A → X → Type 0) (r : Result A Misplaced) (p q : ℕ → P X) (s s' : Held) → ((a : Ans X) → Comes q (look s) s.at a → Comes p (look s) s.at a) → Told R r q s s' → Told R r p s s'
told-as R (Ok a) p q s s' h t = record { val = t.val; rel = t.rel; came = h _ t.came; lasts = t.lasts }
told-as R (Err w) p q s s' h t = record { faulty = t.faulty; came = h _ t.came; place = t.place }

module _ {A X : Type 0} {R : Held → A → X → Type 0} where
  pub went-as : {r : Result A Misplaced} (p q : ℕ → P X) {s s' : Held} → ((a : Ans X) → Comes q (look s) s.at a → Comes p (look s) s.at a) → Went R r q s s' → Went R r p s s'
  went-as {r} p q {s} {s'} h w = record { lender = w.lender; size = w.size; ahead = w.ahead; told = told-as R r p q s s' h w.told }

  -- one call's fuel
  pub fuelled : {r : Result A Misplaced} (p q : ℕ → P X) {s s' : Held} → ((f : ℕ) → p (suc f) ≡ q f) → Went R r q s s' → Went R r p s s'
  fuelled p q {s} h w = went-as p q (λ a c. (suc c.0, again a c.0 c.1)) w
    where
      again : (a : Ans X) (b : ℕ) → ((f : ℕ) → b ≤ f → q f (look s) s.at ≡ a) → (f : ℕ) → suc b ≤ f → p f (look s) s.at ≡ a
      again a b c zero k = absurd (omega arith)
      again a b c (suc f) k = ap (λ (g : P X). g (look s) s.at) (h f) ∙ c f (omega arith)

  pub on-yes : {r : Result A Misplaced} (b : Token → Bool) (p q : ℕ → P X) {s s' : Held} → b (look s s.at) ≡ true → Went R r p s s' → Went R r (λ f. when b (p f) (q f)) s s'
  unfolding when
  on-yes b p q {s} e w = went-as (λ f. when b (p f) (q f)) p (λ a c. (c.0, λ f h. ap (λ z. cond z (p f (look s) s.at) (q f (look s) s.at)) e ∙ c.1 f h)) w

  pub on-no : {r : Result A Misplaced} (b : Token → Bool) (p q : ℕ → P X) {s s' : Held} → b (look s s.at) ≡ false → Went R r q s s' → Went R r (λ f. when b (p f) (q f)) s s'
  unfolding when
  on-no b p q {s} e w = went-as (λ f. when b (p f) (q f)) q (λ a c. (c.0, λ f h. ap (λ z. cond z (p f (look s) s.at) (q f (look s) s.at)) e ∙ c.1 f h)) w

  -- what is wanted stands there
  pub wanted-here : {r : Result A Misplaced} (b : Token → Bool) (k : ℕ → Token → P X) {s s' : Held} → b (look s s.at) ≡ true → Went R r (λ f. seq (wanted b) (k f)) s s' → Went R r (λ f. seq next (k f)) s s'
  unfolding seq when
  wanted-here b k {s} e w = went-as (λ f. seq next (k f)) (λ f. seq (wanted b) (k f)) (λ a c. (c.0, λ f h. sym (ap (λ z. then (cond z (next (look s) s.at) (fault s.at)) (λ x j. k f x (look s) j)) e) ∙ c.1 f h)) w

  -- what the exit of a `?` returns
  pub broke : {r : Result A Misplaced} {e : Misplaced} {p : ℕ → P X} {s s' : Held} → IsErrAnd r (λ y. y ≡ e) → Went R (Err e) p s s' → Went R r p s s'
  broke {r} {e} {p} {s} {s'} by w = let b = err_from_is_err_and r by in subst (λ r. Went R r p s s') (sym (b.1 ∙ ap Err b.2)) w

  pub gives : {a : A} {x : X} {s : Held} → R s a x → Went R (Ok a) (λ _. give x) s s
  gives {a} {x} {s} h = record { lender = refl; size = refl; ahead = omega arith; told = record { val = x; rel = h; came = (0, λ f k. refl); lasts = lasts-refl s } }

  pub stops : {e : Misplaced} {s : Held} → e.place ≡ (look s s.at).place → Went R (Err e) (λ _. stop) s s
  stops {e} {s} h = record { lender = refl; size = refl; ahead = omega arith; told = record { faulty = s.at; came = (0, λ f k. refl); place = h } }

module _ {A B X Y : Type 0} {R : Held → A → X → Type 0} {Q : Held → B → Y → Type 0} where
  pub seq-err : {p : ℕ → P X} (k : ℕ → X → P Y) {e : Misplaced} {s s' : Held} → Went R (Err e) p s s' → Went Q (Err e) (λ f. seq (p f) (k f)) s s'
  unfolding seq
  seq-err {p} k {e} {s} {s'} w = record { lender = w.lender; size = w.size; ahead = w.ahead; told = record { faulty = w.told.faulty; came = (w.told.came.0, λ f h. ap (λ a. then a (λ x j. k f x (look s) j)) (w.told.came.1 f h)); place = w.told.place } }

  pub seq-ok : {p : ℕ → P X} (k : ℕ → X → P Y) {a : A} {r : Result B Misplaced} {s s1 s2 : Held} (w : Went R (Ok a) p s s1) → Went Q r (λ f. k f w.told.val) s1 s2 → Went Q r (λ f. seq (p f) (k f)) s s2
  unfolding seq
  seq-ok {p} k {a} {r} {s} {s1} {s2} w v = record { lender = v.lender ∙ w.lender; size = v.size ∙ w.size; ahead = omega arith; told = go r v.told }
    where
      x : X
      x = w.told.val

      same : look s1 ≡ look s
      same = look-same w.told.lasts

      goes : (a : Ans Y) → Comes (λ f. k f x) (look s1) s1.at a → Comes (λ f. seq (p f) (k f)) (look s) s.at a
      goes a c = (max w.told.came.0 c.0, λ f h. ap (λ a. then a (λ x j. k f x (look s) j)) (w.told.came.1 f (omega arith)) ∙ ap (λ l. k f x l s1.at) (sym same) ∙ c.1 f (omega arith))

      go : (r : Result B Misplaced) → Told Q r (λ f. k f x) s1 s2 → Told Q r (λ f. seq (p f) (k f)) s s2
      go (Ok b) t = record { val = t.val; rel = t.rel; came = goes _ t.came; lasts = lasts_on w.told.lasts t.lasts }
      go (Err w) t = record { faulty = t.faulty; came = goes _ t.came; place = t.place ∙ ap (λ l. (l t.faulty).place) same }

-- a step between two others that takes no token
pub then_ok : {A B X Y : Type 0} {R : Held → A → X → Type 0} {Q : Held → B → Y → Type 0} {x : X} {a : A} {q : ℕ → P Y} {r : Result B Misplaced} {s s1 s2 : Held} → Went R (Ok a) (λ _. give x) s s1 → Went Q r q s1 s2 → Went Q r q s s2
unfolding seq
then_ok {x} {q} w v = seq-ok {p = λ _. give x} (λ f _. q f) w v

-- a kind but the end's stands inside the tokens
pub inside : (ts : List Token) (e i : ℕ) (k : Kind) → is_a k (look_in ts e i) ≡ true → (number k ≡ number End → ⊥) → i < length ts
unfolding same_kind
inside ts e i k q h = go (dec_lt i (length ts))
  where
    go : Dec (i < length ts) → i < length ts
    go (yes l) = l
    go (no l) = absurd (h (sym (eqb→eq (number End) (number k) (subst T (sym (sym (ap (λ (t : Token). eqb (number t.kind) (number k)) (get_or_past ts i _ (omega arith))) ∙ q)) tt))))

pub bumped-lasts : {s s' : Held} → Bumped s s' → Lasts s s'
bumped-lasts {s} {s'} b = record { same = b.same; added = ([], b.nodes ∙ sym (append-nil s.nodes)); rules = ap₂ (λ c ns. sheet (record { source = c; at = 0; nodes = ns; lender = (0, 0) })) b.same b.nodes }

abbrev pub nexts : {a : ℕ} {s s' : Held} → a ≡ s.at → Bumped s s' → Went Taken (Ok a) (λ _. next) s s'
nexts {a} {s} {s'} e b = record { lender = b.lender; size = b.size; ahead = omega arith; told = record { val = look s' a; rel = record { reads = refl }; came = (0, λ f h. ap₂ done (sym (ap₂ (λ c i. look_of c i) b.same e)) (sym b.at)); lasts = bumped-lasts b } }

-- a value made of another
module _ {A X Y : Type 0} where
  pub tail : {p : ℕ → P X} (g : X → Y) (r : Result A Misplaced) {s s' : Held} → Went Any r p s s' → Went (Any {A = A} {X = Y}) r (λ f. seq (p f) (λ x. give (g x))) s s'
  unfolding seq
  tail {p} g r {s} {s'} w = record { lender = w.lender; size = w.size; ahead = w.ahead; told = go r w.told }
    where
      go : (r : Result A Misplaced) → Told Any r p s s' → Told (Any {A = A} {X = Y}) r (λ f. seq (p f) (λ x. give (g x))) s s'
      go (Ok a) t = record { val = g t.val; rel = tt; came = (t.came.0, λ f h. ap (λ a. then a (λ x j. give (g x) (look s) j)) (t.came.1 f h)); lasts = t.lasts }
      go (Err w) t = record { faulty = t.faulty; came = (t.came.0, λ f h. ap (λ a. then a (λ x j. give (g x) (look s) j)) (t.came.1 f h)); place = t.place }

-- what a value stands for may be left unsaid
pub taken-any : {A B X : Type 0} {R : Held → A → X → Type 0} {a : A} {b : B} {p : ℕ → P X} {s s' : Held} → Went R (Ok a) p s s' → Went (Any {A = B} {X = X}) (Ok b) p s s'
taken-any w = record { lender = w.lender; size = w.size; ahead = w.ahead; told = record { val = w.told.val; rel = tt; came = w.told.came; lasts = w.told.lasts } }
