-- Parts of an expression, walked one after another: what they come to together.
use Rattle.std.proofs.Common.{◌≡◌, ℕ, suc, ◌+◌, ◌≤◌, List, [], ◌∷◌, ◌++◌, length, take, Some, Ok, Option, sym, refl, ap, ◌∙◌, subst, ap₂, inl, inr, arith}
use Rattle.std.proofs.lemmas.List.{append-nil, take_at}
use Rattle.rows.specs.declared.row.Row.{Row}
use Rattle.language.specs.declared.refusal.Refusal.{Refusal}
use Rattle.language.specs.declared.term.Term.{Term}
use Rattle.language.specs.Tree.{Expr, Rule}
use Rattle.language.specs.Walking.{Note, Stand, Scope, Got, Mode, Known, infer, walk, assume, binding, counted, knowing, obligations_of, first_fault}
use Rattle.language.proofs.Laws.{fault-next}
use Rattle.pile.specs.Entries.{entries}
use Rattle.records.specs.declared.laid.Laid.{Laid}
use Rattle.records.specs.Columns.{Columns, tables_by}
use Rattle.records.specs.Laying.{columns_of, records_of, owed_of}
use Rattle.records.specs.Owing.{OwesAll}
use Rattle.records.specs.Sound.{Sound}
use Rattle.records.specs.Standing.{Stands}
use Rattle.walking.specs.declared.walker.Walker.{Walker}
use Rattle.walking.specs.Sides.{Fitting}
use Rattle.walking.specs.Stepping.{Sure, Kept, Within, Step, Assumed, Beside, Fallen, facts_of, scope_of, stand_of}
use Rattle.walking.specs.Inferring.{Inferring, Pairing, Checking, branch}
use Rattle.walking.proofs.Stepping.{step-then, step-wider, stays}

abbrev pub tables_of : Walker → Columns
tables_of w = columns_of w.debts.now.tables.now

-- what was said of where the walk stands is said of a scope and a stand
pub from_here : (F : Scope → Stand → Type 0) (w : Walker) (Γ : Scope) (s : Stand) → scope_of w ≡ Γ → stand_of w ≡ s → F (scope_of w) (stand_of w) → F Γ s
from_here F w Γ s e f x = subst (λ t. F Γ t) f (subst (λ G. F G (stand_of w)) e x)

-- the facts and quantities fall back to before a step
module _ (w x z : Walker) (f : Fallen (length (facts_of w)) w.next x z) where
  facts-back : Kept w x → facts_of z ≡ facts_of w
  facts-back k = f.taken ∙ ap (take (length (facts_of w))) k.facts.1 ∙ take_at (facts_of w) k.facts.0 (length (facts_of w)) refl

  pub fallen-kept : Kept w x → Kept w z
  fallen-kept k = record {
    scope = f.scope ∙ k.scope;
    names_room = f.names_room ∙ k.names_room;
    lender = f.lender ∙ k.lender;
    debts = f.debts ∙ k.debts;
    facts = ([], facts-back k ∙ sym (append-nil (facts_of w)));
    sure = record {
      sound = subst (λ (t : Laid). Sound (columns_of t)) (sym f.tables) k.sure.sound;
      names = subst (λ (Γ : Scope). Fitting Γ.names) (sym f.scope) k.sure.names;
      lengths = subst (λ (Γ : Scope). Fitting Γ.lengths) (sym f.scope) k.sure.lengths;
    };
  }

  pub fallen-step : (lo hi : ℕ) (ns : List Note) (s : Stand) → Step lo hi ns s w x → Step lo hi ns (counted (stand_of w) s.count) w z
  fallen-step lo hi ns s t = record {
    faultless = t.faultless;
    stand = ap₂ (λ n c. record { next = n; facts = facts_of z; count = c }) f.begun (ap owed_of f.tables ∙ ap (λ (r : Stand). r.count) t.stand) ∙ ap (λ fs. record { next = w.next; facts = fs; count = s.count }) (facts-back t.kept);
    kept = fallen-kept t.kept;
    columns = subst (λ (u : Laid). Within lo hi (tables_of w) (columns_of u)) (sym f.tables) t.columns;
    number = ap owed_of f.tables ∙ t.number;
    owes = λ os h p. subst (λ (u : Laid). OwesAll (records_of u) (os ++ obligations_of ns)) (sym f.tables) (t.owes os h p);
  }

  pub fallen-stands : (lo at : ℕ) (e : Expr) → Stands (tables_by (tables_of x)) lo at e → Stands (tables_by (tables_of z)) lo at e
  fallen-stands lo at e p = subst (λ (u : Laid). Stands (tables_by (columns_of u)) lo at e) (sym f.tables) p

-- a branch: rows are assumed, a part is walked, and all falls back
module _ (R : List Rule) (m : Mode) (place : ℕ) (rows : List (Option Row)) (e : Expr) (lo at : ℕ) (w v x z : Walker) (a : Assumed (Ok tt) (assume place (facts_of w) rows) w v) where
  known : Known
  known = assume place (facts_of w) rows

  scope-same : scope_of v ≡ scope_of w
  scope-same = (a lo at).kept.scope

  stand-known : stand_of v ≡ knowing (stand_of w) (assume place (facts_of w) rows).facts
  stand-known = (a lo at).stand

  pub branch-step : Checking (walk R m (scope_of v) (stand_of v) e) lo at v x → Fallen (length (facts_of w)) w.next x z → Checking (branch R m (scope_of w) place (stand_of w) rows e) lo at w z
  branch-step c f =
      let d = from_here (λ Γ s. Checking (walk R m Γ s e) lo at v x) v _ _ scope-same stand-known c in
      let g = walk R m (scope_of w) (knowing (stand_of w) (assume place (facts_of w) rows).facts) e in
      record {
        step = fallen-step w x z f lo at _ g.stand (step-then lo at (assume place (facts_of w) rows).notes g.notes _ _ w v x (a lo at) d.step);
        tree = fallen-stands w x z f lo at g.tree d.tree;
      }

  pub branch-not : (r : Refusal) → first_fault (walk R m (scope_of v) (stand_of v) e).notes ≡ Some r → first_fault (branch R m (scope_of w) place (stand_of w) rows e).notes ≡ Some r
  branch-not r n =
      let d = from_here (λ Γ s. first_fault (walk R m Γ s e).notes ≡ Some r) v _ _ scope-same stand-known n in
      fault-next (assume place (facts_of w) rows).notes _ (a lo at).faultless ∙ d

-- the left of two expressions, then the right
module _ (R : List Rule) (x y : Expr) (lo a b : ℕ) (w v : Walker) (t : Term) (i : Inferring t (walk R infer (scope_of w) (stand_of w) x) lo a w v) where
  left : Got
  left = walk R infer (scope_of w) (stand_of w) x

  pub both-not : (r : Refusal) → first_fault (walk R infer (scope_of v) (stand_of v) y).notes ≡ Some r → first_fault ((walk R infer (scope_of w) (stand_of w) x).notes ++ (walk R infer (scope_of w) (walk R infer (scope_of w) (stand_of w) x).stand y).notes) ≡ Some r
  both-not r n = fault-next (walk R infer (scope_of w) (stand_of w) x).notes _ i.step.faultless ∙ from_here (λ Γ s. first_fault (walk R infer Γ s y).notes ≡ Some r) v _ _ i.step.kept.scope i.step.stand n

  pub both-step : (u : Term) (z : Walker) → lo ≤ suc a → a ≤ b → Inferring u (walk R infer (scope_of v) (stand_of v) y) (suc a) b v z → Pairing t u (walk R infer (scope_of w) (stand_of w) x) (walk R infer (scope_of w) (walk R infer (scope_of w) (stand_of w) x).stand y) lo a b w z
  both-step u z l k j =
      let d = from_here (λ Γ s. Inferring u (walk R infer Γ s y) (suc a) b v z) v _ _ i.step.kept.scope i.step.stand j in record {
        left = i.term;
        right = d.term;
        step = step-then lo b _ _ _ _ w v z (step-wider lo b lo a _ _ w v (omega arith) k i.step) (step-wider lo b (suc a) b _ _ v z l (omega arith) d.step);
        left_tree = stays (suc a) b _ _ v z d.step lo a _ (inl (omega arith)) i.tree;
        right_tree = d.tree;
      }

  -- where the left tree was, the right one still stands
  pub right-waits : Stands (tables_by (tables_of w)) (suc a) b y → Stands (tables_by (tables_of v)) (suc a) b y
  right-waits p = stays lo a _ _ w v i.step (suc a) b y (inr (omega arith)) p

-- a name is in force while a part is walked
module _ (v u x z : Walker) (t : Term) (names : entries u.names.now ≡ entries v.names.now ++ t ∷ []) (b : Beside v u) (names' : entries z.names.now ≡ take (length (entries v.names.now)) (entries x.names.now)) (c : Beside x z) (s : Sure v) where
  names-back : Kept u x → entries z.names.now ≡ entries v.names.now
  names-back k = names' ∙ ap (λ (Γ : Scope). take (length (entries v.names.now)) Γ.names) k.scope ∙ ap (take (length (entries v.names.now))) names ∙ take_at (entries v.names.now) (t ∷ []) (length (entries v.names.now)) refl

  lengths-back : Kept u x → z.lengths.now ≡ v.lengths.now
  lengths-back k = c.lengths ∙ ap (λ (Γ : Scope). Γ.lengths) k.scope ∙ b.lengths

  pub let-kept : Kept u x → Kept v z
  let-kept k = record {
    scope = ap₂ (λ xs ys. record { names = xs; lengths = ys }) (names-back k) (lengths-back k);
    names_room = c.names_room ∙ k.names_room ∙ b.names_room;
    lender = c.lender ∙ k.lender ∙ b.lender;
    debts = c.debts ∙ k.debts ∙ b.debts;
    facts = (k.facts.0, c.facts ∙ k.facts.1 ∙ ap (λ fs. fs ++ k.facts.0) b.facts);
    sure = record {
      sound = subst (λ (t : Laid). Sound (columns_of t)) (sym c.tables) k.sure.sound;
      names = subst Fitting (sym (names-back k)) s.names;
      lengths = subst Fitting (sym (lengths-back k)) s.lengths;
    };
  }

  pub let-step : (lo hi : ℕ) (ns : List Note) (r : Stand) → Step lo hi ns r u x → Step lo hi ns r v z
  let-step lo hi ns r p = record {
    faultless = p.faultless;
    stand = ap₂ (λ n fs. record { next = n; facts = fs; count = owed_of z.debts.now.tables.now }) c.next c.facts ∙ ap (λ k. record { next = x.next; facts = facts_of x; count = k }) (ap owed_of c.tables) ∙ p.stand;
    kept = let-kept p.kept;
    columns = subst (λ (q : Laid). Within lo hi (tables_of v) (columns_of q)) (sym c.tables) (subst (λ (q : Laid). Within lo hi (columns_of q) (tables_of x)) b.tables p.columns);
    number = ap owed_of c.tables ∙ p.number ∙ ap (λ n. n + length (obligations_of ns)) (ap owed_of b.tables);
    owes = λ os h q. subst (λ (y : Laid). OwesAll (records_of y) (os ++ obligations_of ns)) (sym c.tables) (p.owes os (h ∙ sym (ap owed_of b.tables)) (subst (λ (y : Laid). OwesAll (records_of y) os) (sym b.tables) q));
  }

  pub let-scope : (Γ : Scope) (g : Term) → scope_of v ≡ Γ → t ≡ g → scope_of u ≡ binding Γ g
  let-scope Γ g e f = ap₂ (λ xs ys. record { names = xs; lengths = ys }) (names ∙ ap₂ (λ (G : Scope) y. G.names ++ y ∷ []) e f) (b.lengths ∙ ap (λ (G : Scope). G.lengths) e)

  pub let-stand : stand_of u ≡ stand_of v
  let-stand = ap₂ (λ n fs. record { next = n; facts = fs; count = owed_of u.debts.now.tables.now }) b.next b.facts ∙ ap (λ k. record { next = v.next; facts = facts_of v; count = k }) (ap owed_of b.tables)

  pub enters : (lo at : ℕ) (e : Expr) → Stands (tables_by (tables_of v)) lo at e → Stands (tables_by (tables_of u)) lo at e
  enters lo at e p = subst (λ (q : Laid). Stands (tables_by (columns_of q)) lo at e) (sym b.tables) p

  pub leaves : (lo at : ℕ) (e : Expr) → Stands (tables_by (tables_of x)) lo at e → Stands (tables_by (tables_of z)) lo at e
  leaves lo at e p = subst (λ (q : Laid). Stands (tables_by (columns_of q)) lo at e) (sym c.tables) p
