-- The walk of a rule that stands at an entry begins as the definition says, and goes on over its body.
use Rattle.std.proofs.Common.{◌≡◌, ℕ, ◌≤◌, List, [], ◌++◌, length, pos, map, take, Some, None, Ok, Err, Result, IfOk, sym, refl, ap, ◌∙◌, subst, ap₂, arith}
use Rattle.std.proofs.lemmas.List.{take_all}
use Rattle.std.proofs.lemmas.List.FromFn.{length-map-range_with_len}
use Rattle.rows.specs.declared.row.Row.{Row}
use Rattle.language.specs.declared.refusal.Refusal.{Refusal}
use Rattle.language.specs.declared.term.Term.{Term}
use Rattle.language.specs.Terms.{zero_term, quantity}
use Rattle.language.specs.Comparing.{at_most}
use Rattle.language.specs.Tree.{Rule, Param, at_lists}
use Rattle.language.specs.Walking.{Note, Got, check, Stand, Obligation, walk, walk_body, start_names, start_scope, start_known, obligations_of, first_fault}
use Rattle.language.proofs.Laws.{fault-first, fault-next}
use Rattle.records.specs.declared.entry.Entry.{Entry}
use Rattle.records.specs.declared.laid.Laid.{Laid}
use Rattle.records.specs.Columns.{Columns, tables_by}
use Rattle.records.specs.Laying.{records_of, owed_of}
use Rattle.records.specs.Owing.{OwesAll}
use Rattle.records.specs.Rules.{RuleStands}
use Rattle.walking.specs.Bodies.{BodyWalked, Bodied}
use Rattle.walking.specs.Inferring.{listed_in, Checked}
use Rattle.walking.specs.Knowing.{Took}
use Rattle.walking.specs.Starting.{Declaring, few_params, numbers_of, params_at, lengths_known, needs_known}
use Rattle.walking.specs.declared.walker.Walker.{Walker}
use Rattle.walking.proofs.Noting.{limit-owes, assume-owes, all-owes}
use Rattle.walking.proofs.Owings.{owed-append}

-- there are no more names than quantities
pub few_names : (ps : List Param) (n : ℕ) (ts ls : List Term) → Declaring ps n ts ls → length ts ≤ 16
few_names ps n ts ls d = omega (arith, ap length d.names, length-map-range_with_len quantity 0 (length ps), d.next, d.few)

-- the facts that a rule's body begins with
abbrev needs_of : Rule → List Note
needs_of r = (needs_known r.place [] (start_names r) (start_scope r).lengths r.needs).notes

start-notes : (r : Rule) → (start_known r).notes ≡ few_params r.params r.place ++ needs_of r
unfolding start_known
start-notes r = refl

start-facts : (r : Rule) → (start_known r).facts ≡ (needs_known r.place [] (start_names r) (start_scope r).lengths r.needs).facts
unfolding start_known
start-facts r = refl

-- nothing is owed before the body
start-owes : (r : Rule) → obligations_of (start_known r).notes ≡ []
unfolding obligations_of
start-owes r =
    let k = lengths_known r.place [] (start_scope r).lengths in
    ap obligations_of (start-notes r) ∙ owed-append (few_params r.params r.place) (needs_of r) ∙ ap (λ os. os ++ obligations_of (needs_of r)) (limit-owes _ _)
    ∙ owed-append k.notes _ ∙ ap₂ (λ (xs ys : List Obligation). xs ++ ys) (assume-owes r.place [] (map (at_most (pos 0) zero_term) (start_scope r).lengths)) (all-owes (λ c. c.place) (start_names r) zero_term k.facts r.needs)

-- what was checked is what the rule owes, since nothing is owed before the body
bodied : (r : Rule) (g : Got) (lo at : ℕ) (w v : Walker) (result : Result (Unit {0}) Refusal) (t u : Laid) → first_fault (start_known r).notes ≡ None → w.debts.now.tables.now ≡ t → IfOk result (λ z. v.debts.now.tables.now ≡ u) → Checked result g lo at w v → Bodied result (start_known r) g lo at t u
bodied r g lo at w v (Err q) t u f same l h = fault-next (start_known r).notes g.notes f ∙ h
bodied r g lo at w v (Ok z) t u f same l h =
    let owed : obligations_of ((start_known r).notes ++ g.notes) ≡ obligations_of g.notes = owed-append (start_known r).notes g.notes ∙ ap (λ os. os ++ obligations_of g.notes) (start-owes r) in
    subst (λ (u : Laid). BodyWalked (start_known r) g lo at t u) l
    (subst (λ (t : Laid). BodyWalked (start_known r) g lo at t v.debts.now.tables.now) same (record {
      faultless = fault-next (start_known r).notes g.notes f ∙ h.step.faultless;
      tree = h.tree;
      columns = h.step.columns;
      count = ap (λ (s : Stand). s.count) h.step.stand;
      number = omega (arith, h.step.number, ap length owed);
      owes = λ os n o. subst (λ ps. OwesAll (records_of v.debts.now.tables.now) (os ++ ps)) (sym owed) (h.step.owes os n o);
    }))

module _ (c : Columns) (lo : ℕ) (e : Entry) (r : Rule) (x : RuleStands (tables_by c) c.params.entries lo e r) where
  few-at : few_params (params_at c e) e.place ≡ few_params r.params r.place
  few-at = ap₂ few_params x.params x.place

  -- there are too many parameters
  pub many : (g : Got) (q : Refusal) → first_fault (few_params (params_at c e) e.place) ≡ Some q → first_fault ((start_known r).notes ++ g.notes) ≡ Some q
  many g q f = fault-first (start_known r).notes g.notes q (ap first_fault (start-notes r) ∙ fault-first (few_params r.params r.place) (needs_of r) q (ap first_fault (sym few-at) ∙ f))

  module _ (n : ℕ) (ts ls : List Term) (fs : List Row) (few : first_fault (few_params (params_at c e) e.place) ≡ None) (d : Declaring (params_at c e) n ts ls) (none : fs ≡ []) where
    names-are : ts ≡ start_names r
    names-are = d.names ∙ ap numbers_of x.params

    lengths-are : ls ≡ (start_scope r).lengths
    lengths-are = d.lengths ∙ ap (λ ps. at_lists ps (numbers_of ps)) x.params

    needs-are : needs_known e.place fs ts ls (listed_in c e.needs) ≡ needs_known r.place [] (start_names r) (start_scope r).lengths r.needs
    needs-are =
        ap₂ (λ p l. needs_known p l ts ls (listed_in c e.needs)) x.place none
        ∙ ap₂ (λ l k. needs_known r.place [] l k (listed_in c e.needs)) names-are lengths-are
        ∙ ap (needs_known r.place [] (start_names r) (start_scope r).lengths) x.needs.reads

    -- the needs are refused
    pub crowded : (g : Got) (q : Refusal) (after : List Row) → Took (Err q) (needs_known e.place fs ts ls (listed_in c e.needs)) fs after → first_fault ((start_known r).notes ++ g.notes) ≡ Some q
    crowded g q after t =
        fault-first (start_known r).notes g.notes q (ap first_fault (start-notes r) ∙ fault-next (few_params r.params r.place) (needs_of r) (ap first_fault (sym few-at) ∙ few) ∙ ap (λ k. first_fault k.notes) (sym needs-are) ∙ t.0)

    module _ (after : List Row) (took : Took (Ok tt) (needs_known e.place fs ts ls (listed_in c e.needs)) fs after) where
      started : first_fault (start_known r).notes ≡ None
      started = ap first_fault (start-notes r) ∙ fault-next (few_params r.params r.place) (needs_of r) (ap first_fault (sym few-at) ∙ few) ∙ ap (λ k. first_fault k.notes) (sym needs-are) ∙ took.0

      -- the walk of the body is that of the definition
      body-is : (R : List Rule) (count mark : ℕ) (ks : List Term) → mark ≡ length ts → ks ≡ ls
          → walk R (check (take mark ts) (listed_in c e.gives)) (record { names = ts; lengths = ks }) (record { next = n; facts = after; count = count }) r.body ≡ walk_body R count r
      body-is R count mark ks m k =
          ap₂ (λ l cs. walk R (check l cs) (record { names = ts; lengths = ks }) (record { next = n; facts = after; count = count }) r.body) (take_all mark ts (omega (arith, m)) ∙ names-are) x.gives.reads
          ∙ ap₂ (λ l k. walk R (check (start_names r) r.gives) (record { names = l; lengths = k }) (record { next = n; facts = after; count = count }) r.body) names-are (k ∙ lengths-are)
          ∙ ap₂ (λ i l. walk R (check (start_names r) r.gives) (start_scope r) (record { next = i; facts = l; count = count }) r.body) (d.next ∙ ap length x.params) (took.1 ∙ ap (λ k. k.facts) needs-are ∙ sym (start-facts r))

      pub walked : (R : List Rule) (mark : ℕ) (ks : List Term) (w v : Walker) (result : Result (Unit {0}) Refusal) (t u : Laid) → mark ≡ length ts → ks ≡ ls → w.debts.now.tables.now ≡ t → IfOk result (λ z. v.debts.now.tables.now ≡ u)
          → Checked result (walk R (check (take mark ts) (listed_in c e.gives)) (record { names = ts; lengths = ks }) (record { next = n; facts = after; count = owed_of t }) r.body) lo e.body w v
          → Bodied result (start_known r) (walk_body R (owed_of t) r) lo e.body t u
      walked R mark ks w v result t u m k same last h = bodied r (walk_body R (owed_of t) r) lo e.body w v result t u started same last (subst (λ (g : Got). Checked result g lo e.body w v) (body-is R (owed_of t) mark ks m k) h)
