-- Ready's answer, and that the notes of a sheet that was taken are fine once it is yes.
use Rattle.std.proofs.Common.{◌≡◌, ℕ, zero, suc, ◌+◌, ◌<◌, Bool, true, false, cond, not, ◌&&◌, T, ltb, List, [], ◌∷◌, ◌++◌, length, get_or, ℤ, Some, None, Option, sym, refl, ap, ◌∙◌, subst, add-zero, add-suc, suc-add, zero-add, arith}
use Rattle.std.specs.List.{AllByRecursion, slice_get}
use Rattle.std.proofs.lemmas.Bool.{true≢false, false≢true}
use Rattle.std.proofs.lemmas.Option.{none-some}
use Rattle.rows.specs.Meaning.{Follows}
use Rattle.language.specs.declared.refusal.Refusal.{Refusal}
use Rattle.language.specs.declared.refusal.Refusal.TheVariants.{Closed, Full}
use Rattle.language.specs.Tree.{Expr, Rule, rule_at, no_expr}
use Rattle.language.specs.Walking.{Obligation, Note, owes, fault, start_known, walk_body, walk_rules, obligations_of, first_fault}
use Rattle.language.specs.Running.{Dropped}
use Rattle.language.specs.Drafts.{Sheet, is_guard, first_open, answered}
use Rattle.language.specs.Histories.{on}
use Rattle.language.specs.Promise.{Answers}
use Rattle.language.proofs.Walks.{Counts}
use Rattle.language.proofs.Duties.{all_left, all_right, Fine}
use Rattle.language.proofs.Tests.{cond-none}

-- what the first open guard from k on says
pub record Opened (S : Dropped) (k : ℕ) (os : List Obligation) (r : Refusal) : Type 0 where
  pub at : ℕ
  pub obligation : Obligation
  pub is : slice_get os at ≡ Some obligation
  pub guard : T (is_guard obligation.duty)
  pub open-here : T (not (S (at + k)))
  pub before : (m : ℕ) → m < at → (o : Obligation) → slice_get os m ≡ Some o → T (is_guard o.duty) → T (S (m + k))
  pub named : r ≡ Closed (at + k) obligation.place

abbrev Closes : Dropped → ℕ → List Obligation → Option Refusal → Type 0
Closes S k os None = (m : ℕ) (o : Obligation) → slice_get os m ≡ Some o → T (is_guard o.duty) → T (S (m + k))
Closes S k os (Some r) = Opened S k os r

settled-or-not : (g s : Bool) → (g && not s) ≡ false → T g → T s
settled-or-not true true e h = tt
settled-or-not true false e h = absurd (true≢false e)
settled-or-not false s e h = absurd h

open_at : (g s : Bool) → (g && not s) ≡ true → T g × T (not s)
open_at true true e = absurd (false≢true e)
open_at true false e = (tt, tt)
open_at false s e = absurd (false≢true e)

closes : (S : Dropped) (k : ℕ) (os : List Obligation) → Closes S k os (first_open k os S)
unfolding first_open
closes S k [] = λ m o e g. absurd (none-some o e)
closes S k (x ∷ os) = go (is_guard x.duty && not (S k)) refl (first_open (suc k) os S) (closes S (suc k) os)
  where
    this : (o : Obligation) → slice_get (x ∷ os) 0 ≡ Some o → x ≡ o
    this o e = cc

    first : (is_guard x.duty && not (S k)) ≡ false → (o : Obligation) → slice_get (x ∷ os) 0 ≡ Some o → T (is_guard o.duty) → T (S (0 + k))
    first b o e g =
        subst (λ (i : ℕ). T (S i)) (sym (zero-add k)) (settled-or-not (is_guard x.duty) (S k) b (subst (λ (y : Obligation). T (is_guard y.duty)) (sym (this o e)) g))

    shift : (m : ℕ) → T (S (m + suc k)) → T (S (suc m + k))
    shift m t = subst (λ (i : ℕ). T (S i)) (add-suc m k ∙ sym (suc-add m k)) t

    go : (b : Bool) → (is_guard x.duty && not (S k)) ≡ b → (r : Option Refusal) → Closes S (suc k) os r → Closes S k (x ∷ os) (cond b (Some (Closed k x.place)) r)
    go true b r c =
        let p = open_at (is_guard x.duty) (S k) b in
        record {
          at = 0;
          obligation = x;
          is = refl;
          guard = p.0;
          open-here = subst (λ (i : ℕ). T (not (S i))) (sym (zero-add k)) p.1;
          before = λ m l. let no : ⊥ = omega arith in absurd no;
          named = ap (λ (i : ℕ). Closed i x.place) (sym (zero-add k));
        }
    go false b None c = later
      where
        later : (m : ℕ) (o : Obligation) → slice_get (x ∷ os) m ≡ Some o → T (is_guard o.duty) → T (S (m + k))
        later zero o e g = first b o e g
        later (suc m) o e g = shift m (c m o e g)
    go false b (Some r) c = record {
      at = suc c.at;
      obligation = c.obligation;
      is = c.is;
      guard = c.guard;
      open-here = subst (λ (i : ℕ). T (not (S i))) (add-suc c.at k ∙ sym (suc-add c.at k)) c.open-here;
      before = before;
      named = c.named ∙ ap (λ (i : ℕ). Closed i c.obligation.place) (add-suc c.at k ∙ sym (suc-add c.at k));
    }
      where
        before : (m : ℕ) → m < suc c.at → (o : Obligation) → slice_get (x ∷ os) m ≡ Some o → T (is_guard o.duty) → T (S (m + k))
        before zero l o e g = first b o e g
        before (suc m) l o e g = shift m (c.before m (omega arith) o e g)

-- every guard is settled once nothing is open
pub all_closed : (S : Dropped) (os : List Obligation) → first_open 0 os S ≡ None → (m : ℕ) (o : Obligation) → slice_get os m ≡ Some o → T (is_guard o.duty) → T (S m)
all_closed S os e m o i g = subst (λ (j : ℕ). T (S j)) (add-zero m) (subst (λ (r : Option Refusal). Closes S 0 os r) e (closes S 0 os) m o i g)

pub answers : (sheet : Sheet) (list : List ℕ) (S : Dropped) → ((n : ℕ) → S n ≡ on list n) → Answers sheet list (answered (first_open 0 sheet.obligations S))
answers sheet list S same = go (first_open 0 sheet.obligations S) (closes S 0 sheet.obligations)
  where
    listed : (m : ℕ) → T (S (m + 0)) → T (on list m)
    listed m t = subst T (ap S (add-zero m) ∙ same m) t

    go : (r : Option Refusal) → Closes S 0 sheet.obligations r → Answers sheet list (answered r)
    go None c = λ n o e g. listed n (c n o e g)
    go (Some r) c = (
      c.at,
      c.obligation,
      c.is,
      c.guard,
      subst (λ (b : Bool). T (not b)) (ap S (add-zero c.at) ∙ same c.at) c.open-here,
      (λ m l o e g. listed m (c.before m l o e g)),
      c.named ∙ ap (λ (i : ℕ). Closed i c.obligation.place) (add-zero c.at),
    )

-- notes without a fault, whose obligations are fine one by one
pub fine-notes : (low high : ℤ) (S : Dropped) (k m : ℕ) (ns : List Note) → Counts k ns m → first_fault ns ≡ None
    → ((i : ℕ) (o : Obligation) → slice_get (obligations_of ns) i ≡ Some o → (T (is_guard o.duty) → T (S (i + k))) × (T (S (i + k)) → Follows low high o.facts o.goal))
    → AllByRecursion (Fine low high S) ns
unfolding first_fault obligations_of
fine-notes low high S k m [] c e f = tt
fine-notes low high S k m (fault r ∷ ns) c e f = absurd (none-some r (sym e))
fine-notes low high S k m (owes o work ∷ ns) c e f =
    let x = f 0 o refl in
    let same : 0 + k ≡ o.number = zero-add k ∙ sym c.0 in (
      (λ g. subst (λ (i : ℕ). T (S i)) same (x.0 g), λ t. x.1 (subst (λ (i : ℕ). T (S i)) (sym same) t)),
      fine-notes low high S (suc k) m ns c.1 (cond-none (ltb o.number 128) (first_fault ns) (Full work) e).1
          (λ i p d. subst (λ (j : ℕ). (T (is_guard p.duty) → T (S j)) × (T (S j) → Follows low high p.facts p.goal)) (suc-add i k ∙ sym (add-suc i k)) (f (suc i) p d)),
    )

-- the body of each rule
pub record Body (low high : ℤ) (S : Dropped) (R : List Rule) (r : Rule) (e : Expr) : Type 0 where
  pub count : ℕ
  pub body : e ≡ (walk_body R count r).tree
  pub start : AllByRecursion (Fine low high S) (start_known r).notes
  pub notes : AllByRecursion (Fine low high S) (walk_body R count r).notes

pub bodies : (low high : ℤ) (S : Dropped) (R : List Rule) (k : ℕ) (rs : List Rule) → AllByRecursion (Fine low high S) (walk_rules R k rs).notes → (f : ℕ) → f < length rs
    → Body low high S R (rule_at rs f) (get_or (walk_rules R k rs).bodies f no_expr)
unfolding walk_rules
bodies low high S R k [] h f l = let no : ⊥ = omega arith in absurd no
bodies low high S R k (r ∷ rs) h zero l =
    let g = walk_body R k r in
    let o = all_left (Fine low high S) ((start_known r).notes ++ g.notes) _ h in
    record { count = k; body = refl; start = all_left (Fine low high S) (start_known r).notes g.notes o; notes = all_right (Fine low high S) (start_known r).notes g.notes o }
bodies low high S R k (r ∷ rs) h (suc f) l =
    let g = walk_body R k r in
    bodies low high S R g.stand.count rs (all_right (Fine low high S) ((start_known r).notes ++ g.notes) _ h) f (omega arith)
