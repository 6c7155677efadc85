-- A call: its arguments, then what it owes, then what it gives.
use Rattle.std.proofs.Common.{◌≡◌, ℕ, suc, true, false, List, [], ◌++◌, Some, None, Ok, Err, Result, sym, refl, ap, ◌∙◌, subst, ap₂, inl, inr, arith}
use Rattle.std.specs.List.{slice_get}
use Rattle.language.specs.declared.refusal.Refusal.{Refusal}
use Rattle.language.specs.declared.refusal.Refusal.TheVariants.{Name}
use Rattle.language.specs.declared.term.Term.{Term}
use Rattle.language.specs.Comparing.{conditions_rows}
use Rattle.language.specs.Terms.{zero_term}
use Rattle.language.specs.Tree as Tree
use Rattle.language.specs.Tree.{Expr, Args, Rule, rule_at}
use Rattle.language.specs.Walking.{Stand, Scope, Found, Got, Gots, Owing, counted, limit, fresh, fresh_with, finish, owe_all, callable, infer, walk, walks, first_fault}
use Rattle.language.proofs.Laws.{fault-first, fault-next}
use Rattle.pile.specs.Entries.{entries}
use Rattle.pile.specs.declared.Pile.{Pile}
use Rattle.records.specs.declared.entry.Entry.{Entry}
use Rattle.records.specs.declared.node.Node.TheVariants.{Call}
use Rattle.records.specs.Columns.{tables_by}
use Rattle.records.specs.Laying.{columns_of, owed_of}
use Rattle.records.specs.Standing.{Stands, call}
use Rattle.records.specs.Inverting.{CallStands}
use Rattle.walking.specs.declared.walker.Walker.{Walker}
use Rattle.walking.specs.Inferring.{Inferred, Giving, listed_in}
use Rattle.walking.specs.Stepping.{Step, Finds, Owed, facts_of, scope_of, stand_of}
use Rattle.walking.proofs.Callees.{Called}
use Rattle.walking.proofs.Heads.{head-stays}
use Rattle.walking.proofs.Noting.{with-notes}
use Rattle.walking.proofs.Stepping.{step-then, step-wider, args-stay, node-stays}

module _ (R : List Rule) (Γ : Scope) (s : Stand) (p f : ℕ) (es : Args) where
  abbrev pub arguments_of : Gots
  arguments_of = walks R Γ s es

  abbrev pub needs_of : Owing
  needs_of = owe_all p arguments_of.stand.facts arguments_of.stand.count (conditions_rows arguments_of.terms zero_term (rule_at R f).needs)

  abbrev pub gives_of : Found
  gives_of = fresh_with p arguments_of.terms (rule_at R f).gives (counted arguments_of.stand needs_of.count) []

  abbrev pub whole_of : Got
  whole_of = walk R infer Γ s (Tree.call p f es)

  call-term : whole_of.term ≡ gives_of.term
  unfolding walk finish fresh_with fresh
  call-term = refl

  call-stand : whole_of.stand ≡ gives_of.stand
  unfolding walk finish fresh_with fresh
  call-stand = refl

  call-tree : whole_of.tree ≡ Tree.call p f arguments_of.tree
  unfolding walk
  call-tree = refl

  -- no rule takes the arguments
  pub none-called : callable R f es ≡ false → first_fault whole_of.notes ≡ Some (Name p)
  unfolding walk finish limit first_fault fresh_with fresh
  none-called n = ap (λ b. first_fault (fresh_with p arguments_of.terms (rule_at R f).gives (counted arguments_of.stand needs_of.count) ((limit b (Name p) ++ arguments_of.notes) ++ needs_of.notes)).notes) n

  -- a rule does
  module _ (y : callable R f es ≡ true) where
    call-notes : whole_of.notes ≡ (arguments_of.notes ++ needs_of.notes) ++ gives_of.notes
    unfolding walk finish limit
    call-notes =
        ap (λ b. (fresh_with p arguments_of.terms (rule_at R f).gives (counted arguments_of.stand needs_of.count) ((limit b (Name p) ++ arguments_of.notes) ++ needs_of.notes)).notes) y
        ∙ with-notes p (counted arguments_of.stand needs_of.count) arguments_of.terms (rule_at R f).gives (arguments_of.notes ++ needs_of.notes)

    arguments_refused : (r : Refusal) → first_fault arguments_of.notes ≡ Some r → first_fault whole_of.notes ≡ Some r
    arguments_refused r e = ap first_fault call-notes ∙ fault-first (arguments_of.notes ++ needs_of.notes) gives_of.notes r (fault-first arguments_of.notes needs_of.notes r e)

    needs_refused : (r : Refusal) → first_fault arguments_of.notes ≡ None → first_fault needs_of.notes ≡ Some r → first_fault whole_of.notes ≡ Some r
    needs_refused r n e = ap first_fault call-notes ∙ fault-first (arguments_of.notes ++ needs_of.notes) gives_of.notes r (fault-next arguments_of.notes needs_of.notes n ∙ e)

    gives_refused : (r : Refusal) → first_fault arguments_of.notes ≡ None → first_fault needs_of.notes ≡ None → first_fault gives_of.notes ≡ Some r → first_fault whole_of.notes ≡ Some r
    gives_refused r n m e = ap first_fault call-notes ∙ fault-next (arguments_of.notes ++ needs_of.notes) gives_of.notes (fault-next arguments_of.notes needs_of.notes n ∙ m) ∙ e

-- where the call stands in the tables
module _ (R : List Rule) (lo at p f a : ℕ) (w : Walker) (e : Expr) (node : slice_get (columns_of w.debts.now.tables.now).nodes.entries at ≡ Some (Call p f a)) (s : CallStands (tables_by (columns_of w.debts.now.tables.now)) lo p f a at e) where
  abbrev pub args_here : Gots
  args_here = arguments_of R (scope_of w) (stand_of w) p f s.args

  abbrev needs_here : Owing
  needs_here = needs_of R (scope_of w) (stand_of w) p f s.args

  abbrev gives_here : Found
  gives_here = gives_of R (scope_of w) (stand_of w) p f s.args

  abbrev pub call_here : Got
  call_here = walk R infer (scope_of w) (stand_of w) e

  turned : (r : Refusal) → first_fault (whole_of R (scope_of w) (stand_of w) p f s.args).notes ≡ Some r → first_fault call_here.notes ≡ Some r
  turned r x = ap (λ e. first_fault (walk R infer (scope_of w) (stand_of w) e).notes) s.is ∙ x

  pub call-unnamed : callable R f s.args ≡ false → first_fault call_here.notes ≡ Some (Name p)
  call-unnamed n = turned (Name p) (none-called R (scope_of w) (stand_of w) p f s.args n)

  module _ (entry : Entry) (k : Called (columns_of w.debts.now.tables.now) R f entry s.args) where
    pub call-ungiven : (r : Refusal) → first_fault args_here.notes ≡ Some r → first_fault call_here.notes ≡ Some r
    call-ungiven r x = turned r (arguments_refused R (scope_of w) (stand_of w) p f s.args k.takes r x)

    -- the arguments were given
    module _ (v : Walker) (before after : Pile Term) (none : entries before ≡ []) (g : Giving args_here lo a before after w v) (given : List Term) (same : given ≡ entries after) where
      terms : given ≡ args_here.terms
      terms = same ∙ g.terms ∙ ap (λ ts. ts ++ args_here.terms) none

      abbrev owing : Owing
      owing = owe_all p (facts_of v) (owed_of v.debts.now.tables.now) (conditions_rows given zero_term (listed_in (columns_of v.debts.now.tables.now) entry.needs))

      owing-is : owing ≡ needs_here
      owing-is =
          let h = head-stays lo a args_here.notes args_here.stand w v entry (rule_at R f) g.step k.head in
          ap (λ (q : Stand). owe_all p q.facts q.count (conditions_rows given zero_term (listed_in (columns_of v.debts.now.tables.now) entry.needs))) g.step.stand
          ∙ ap₂ (λ ts cs. owe_all p args_here.stand.facts args_here.stand.count (conditions_rows ts zero_term cs)) terms h.needs

      pub call-unowed : (r : Refusal) → first_fault owing.notes ≡ Some r → first_fault call_here.notes ≡ Some r
      call-unowed r x = turned r (needs_refused R (scope_of w) (stand_of w) p f s.args k.takes r g.step.faultless (ap (λ (o : Owing). first_fault o.notes) (sym owing-is) ∙ x))

      -- the needs were owed
      module _ (u : Walker) (o : Owed (Ok tt) owing v u) (again : List Term) (too : again ≡ entries after) where
        step : (l h : ℕ) → Step l h needs_here.notes (counted args_here.stand needs_here.count) v u
        step l h =
            subst (λ (x : Owing). Step l h x.notes (counted args_here.stand x.count) v u) owing-is
            (subst (λ (q : Stand). Step l h owing.notes (counted q owing.count) v u) g.step.stand (o l h))

        abbrev giving : Found
        giving = fresh_with p again (listed_in (columns_of u.debts.now.tables.now) entry.gives) (stand_of u) []

        giving-is : giving ≡ gives_here
        giving-is =
            let t = step 0 0 in
            let h = head-stays 0 0 needs_here.notes (counted args_here.stand needs_here.count) v u entry (rule_at R f) t (head-stays lo a args_here.notes args_here.stand w v entry (rule_at R f) g.step k.head) in
            ap (λ (q : Stand). fresh_with p again (listed_in (columns_of u.debts.now.tables.now) entry.gives) q []) t.stand
            ∙ ap₂ (λ ts cs. fresh_with p ts cs (counted args_here.stand needs_here.count) []) (too ∙ sym same ∙ terms) h.gives

        pub call-inferred : (r : Result Term Refusal) (z : Walker) → Finds r giving u z → Inferred r call_here lo at w z
        call-inferred r z x =
            subst (λ (e : Expr). Inferred r (walk R infer (scope_of w) (stand_of w) e) lo at w z) (sym s.is)
            (go r (subst (λ (q : Found). Finds r q u z) giving-is x))
          where
            whole : Got
            whole = whole_of R (scope_of w) (stand_of w) p f s.args

            go : (r : Result Term Refusal) → Finds r gives_here u z → Inferred r (whole_of R (scope_of w) (stand_of w) p f s.args) lo at w z
            go (Err q) x = gives_refused R (scope_of w) (stand_of w) p f s.args k.takes q g.step.faultless (step 0 0).faultless x
            go (Ok t) x =
                let al = s.args_below in
                let notes = call-notes R (scope_of w) (stand_of w) p f s.args k.takes in
                let stand = call-stand R (scope_of w) (stand_of w) p f s.args in
                let first = step-wider lo at lo a args_here.notes args_here.stand w v (omega arith) (omega (arith, al)) g.step in
                let two = step-then lo at args_here.notes needs_here.notes args_here.stand (counted args_here.stand needs_here.count) w v u first (step lo at) in
                let all = step-then lo at (args_here.notes ++ needs_here.notes) gives_here.notes (counted args_here.stand needs_here.count) gives_here.stand w u z two (x.step lo at) in
                let owed = step (suc at) at in
                let gave = x.step (suc at) at in
                let here = node-stays (suc at) at gives_here.notes gives_here.stand u z gave at _ (inl (omega arith))
                (node-stays (suc at) at needs_here.notes (counted args_here.stand needs_here.count) v u owed at _ (inl (omega arith))
                (node-stays lo a args_here.notes args_here.stand w v g.step at _ (inr al) node)) in
                let tree = args-stay (suc at) at gives_here.notes gives_here.stand u z gave lo a args_here.tree (inl (omega (arith, al)))
                (args-stay (suc at) at needs_here.notes (counted args_here.stand needs_here.count) v u owed lo a args_here.tree (inl (omega (arith, al))) g.tree) in record {
                  term = x.term ∙ sym (call-term R (scope_of w) (stand_of w) p f s.args);
                  step = subst (λ ns. Step lo at ns whole.stand w z) (sym notes) (subst (λ (q : Stand). Step lo at ((args_here.notes ++ needs_here.notes) ++ gives_here.notes) q w z) (sym stand) all);
                  tree = subst (λ (e : Expr). Stands (tables_by (columns_of z.debts.now.tables.now)) lo at e) (sym (call-tree R (scope_of w) (stand_of w) p f s.args)) (call here al tree);
                }
