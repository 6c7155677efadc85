-- Steps of a rule's walk, one after another.
use Rattle.std.proofs.Common.{◌≡◌, ℕ, ◌<◌, ◌≤◌, ◌⊎◌, ⊎_elim, List, [], ◌++◌, length, Some, None, sym, refl, ap, ◌∙◌, subst, inl, inr, arith}
use Rattle.std.proofs.lemmas.List.{append-nil, append_assoc, length-append}
use Rattle.std.specs.List.{slice_get}
use Rattle.language.specs.Tree.{Expr, Args}
use Rattle.language.specs.Walking.{Note, Stand, Owing, obligations_of, first_fault}
use Rattle.language.proofs.Laws.{fault-next}
use Rattle.records.specs.declared.laid.Laid.{Laid}
use Rattle.records.specs.declared.node.Node.{Node}
use Rattle.records.specs.Columns.{Columns, tables_by}
use Rattle.records.specs.Laying.{columns_of, records_of, owed_of}
use Rattle.records.specs.Owing.{OwesAll}
use Rattle.records.specs.Standing.{Stands, ArgsStand}
use Rattle.records.proofs.Framing.{framed, args_framed}
use Rattle.walking.specs.declared.walker.Walker.{Walker}
use Rattle.walking.specs.Owing.{Pays}
use Rattle.walking.specs.Stepping.{Sure, Kept, Within, Step, facts_of, stand_of}
use Rattle.walking.proofs.Owings.{owed-append}

-- nodes outside the positions stay
pub within-none : (lo hi : ℕ) (p : Columns) → Within lo hi p p
within-none lo hi p = record { nodes = λ k h. refl; count = refl; rest = refl }

pub within-wider : (lo hi l h : ℕ) (p q : Columns) → lo ≤ l → h ≤ hi → Within l h p q → Within lo hi p q
within-wider lo hi l h p q a b w = record {
  nodes = λ k o. w.nodes k (⊎_elim (λ x. inl (omega arith)) (λ x. inr (omega arith)) o);
  count = w.count;
  rest = w.rest;
}

pub within-then : (lo hi : ℕ) (p q r : Columns) → Within lo hi p q → Within lo hi q r → Within lo hi p r
within-then lo hi p q r a b = record {
  nodes = λ k o. b.nodes k o ∙ a.nodes k o;
  count = b.count ∙ a.count;
  rest = b.rest ∙ ap (λ (c : Columns). record c { nodes = r.nodes }) a.rest;
}

-- what steps keep
pub kept-none : (w : Walker) → Sure w → Kept w w
kept-none w s = record { scope = refl; names_room = refl; lender = refl; debts = refl; facts = ([], sym (append-nil (facts_of w))); sure = s }

pub kept-then : (w v x : Walker) → Kept w v → Kept v x → Kept w x
kept-then w v x a b = record {
  scope = b.scope ∙ a.scope;
  names_room = b.names_room ∙ a.names_room;
  lender = b.lender ∙ a.lender;
  debts = b.debts ∙ a.debts;
  facts = (a.facts.0 ++ b.facts.0, b.facts.1 ∙ ap (λ fs. fs ++ b.facts.0) a.facts.1 ∙ append_assoc (facts_of w) a.facts.0 b.facts.0);
  sure = b.sure;
}

-- a step that owes nothing and leaves the tables
pub step-quiet : (lo hi : ℕ) (ns : List Note) (s : Stand) (w v : Walker) → v.debts.now.tables.now ≡ w.debts.now.tables.now → Kept w v → first_fault ns ≡ None → obligations_of ns ≡ [] → stand_of v ≡ s → Step lo hi ns s w v
step-quiet lo hi ns s w v t k f o e = record {
  faultless = f;
  stand = e;
  kept = k;
  columns = subst (λ (u : Laid). Within lo hi (columns_of w.debts.now.tables.now) (columns_of u)) (sym t) (within-none lo hi (columns_of w.debts.now.tables.now));
  number = (let n = ap length o in let m = ap owed_of t in omega (arith, n, m));
  owes = λ os h p. subst (λ xs. OwesAll (records_of v.debts.now.tables.now) xs) (sym (append-nil os) ∙ ap (λ xs. os ++ xs) (sym o)) (subst (λ (u : Laid). OwesAll (records_of u) os) (sym t) p);
}

-- a step that owes and leaves the rest
pub step-pays : (lo hi : ℕ) (o : Owing) (s : Stand) (w v : Walker) → Pays o w.debts.now.tables.now v.debts.now.tables.now → Kept w v → stand_of v ≡ s → Step lo hi o.notes s w v
step-pays lo hi o s w v p k e = record {
  faultless = p.faultless;
  stand = e;
  kept = k;
  columns = subst (λ (c : Columns). Within lo hi (columns_of w.debts.now.tables.now) c) (sym p.columns) (within-none lo hi (columns_of w.debts.now.tables.now));
  number = p.number;
  owes = p.owes;
}

pub step-then : (lo hi : ℕ) (ns ms : List Note) (s r : Stand) (w v x : Walker) → Step lo hi ns s w v → Step lo hi ms r v x → Step lo hi (ns ++ ms) r w x
step-then lo hi ns ms s r w v x a b =
    let e = owed-append ns ms in record {
      faultless = fault-next ns ms a.faultless ∙ b.faultless;
      stand = b.stand;
      kept = kept-then w v x a.kept b.kept;
      columns = within-then lo hi _ _ _ a.columns b.columns;
      number = omega (arith, a.number, b.number, ap length e, length-append (obligations_of ns) (obligations_of ms));
      owes = λ os h p. subst (λ ps. OwesAll (records_of x.debts.now.tables.now) ps) (append_assoc os (obligations_of ns) (obligations_of ms) ∙ sym (ap (λ qs. os ++ qs) e))
          (b.owes (os ++ obligations_of ns) (omega (arith, a.number, h, length-append os (obligations_of ns))) (a.owes os h p));
    }

pub step-wider : (lo hi l h : ℕ) (ns : List Note) (s : Stand) (w v : Walker) → lo ≤ l → h ≤ hi → Step l h ns s w v → Step lo hi ns s w v
step-wider lo hi l h ns s w v a b t = record { faultless = t.faultless; stand = t.stand; kept = t.kept; columns = within-wider lo hi l h _ _ a b t.columns; number = t.number; owes = t.owes }

-- the nodes of a stretch of positions stay, where a step leaves them
module _ (l h : ℕ) (ns : List Note) (s : Stand) (w v : Walker) (t : Step l h ns s w v) where
  conditions-stay : (columns_of v.debts.now.tables.now).conditions ≡ (columns_of w.debts.now.tables.now).conditions
  conditions-stay = ap (λ (c : Columns). c.conditions) t.columns.rest

  items-stay : (columns_of v.debts.now.tables.now).items ≡ (columns_of w.debts.now.tables.now).items
  items-stay = ap (λ (c : Columns). c.items) t.columns.rest

  apart : (lo hi : ℕ) → (hi < l) ⊎ (h < lo) → (k : ℕ) → lo ≤ k → k ≤ hi → (k < l) ⊎ (h < k)
  apart lo hi o k a b = ⊎_elim (λ x. inl (omega arith)) (λ x. inr (omega arith)) o

  pub stays : (lo hi : ℕ) (e : Expr) → (hi < l) ⊎ (h < lo) → Stands (tables_by (columns_of w.debts.now.tables.now)) lo hi e → Stands (tables_by (columns_of v.debts.now.tables.now)) lo hi e
  stays lo hi e o x =
      framed (tables_by (columns_of w.debts.now.tables.now)) (tables_by (columns_of v.debts.now.tables.now)) (ap (λ c. c.entries) conditions-stay) (ap (λ c. c.entries) items-stay) lo hi e
      (λ k a b. t.columns.nodes k (apart lo hi o k a b)) x

  pub args-stay : (lo hi : ℕ) (es : Args) → (hi < l) ⊎ (h < lo) → ArgsStand (tables_by (columns_of w.debts.now.tables.now)) lo hi es → ArgsStand (tables_by (columns_of v.debts.now.tables.now)) lo hi es
  args-stay lo hi es o x =
      args_framed (tables_by (columns_of w.debts.now.tables.now)) (tables_by (columns_of v.debts.now.tables.now)) (ap (λ c. c.entries) conditions-stay) (ap (λ c. c.entries) items-stay) lo hi es
      (λ k a b. t.columns.nodes k (apart lo hi o k a b)) x

  pub node-stays : (k : ℕ) (n : Node) → (k < l) ⊎ (h < k) → slice_get (columns_of w.debts.now.tables.now).nodes.entries k ≡ Some n → slice_get (columns_of v.debts.now.tables.now).nodes.entries k ≡ Some n
  node-stays k n o e = t.columns.nodes k o ∙ e
