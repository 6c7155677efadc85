use Rattle.std.proofs.Common.{◌≡◌, Ok, Err, Result, sym, refl, ap, ◌∙◌, subst, ap₂, arith}
use Rattle.std.proofs.lemmas.Result.{IfOk-weaker}
use Rattle.language.specs.declared.refusal.Refusal.{Refusal}
use Rattle.language.specs.Walking.{Known, start_known, walk_body}
use Rattle.pile.specs.Entries.{entries}
use Rattle.records.specs.declared.laid.Laid.{Laid}
use Rattle.records.specs.Laying.{columns_of, owed_of}
use Rattle.records.specs.Sound.{Sound}
use Rattle.walking.specs.declared.debts.Debts.{Debts}
use Rattle.walking.specs.Bodies.{Bodied}
use Rattle.walking.specs.Inferring.{listed_in}
use Rattle.walking.specs.Keeping.{DebtsKept}
use Rattle.walking.specs.Knowing.{Took}
use Rattle.walking.specs.Starting.{Declared, params_at, needs_known}
use Rattle.walking.specs.Stepping.{Kept}
use Rattle.walking.proofs.Knowings.{refused}
use Rattle.walking.proofs.Beginning.{few_names, many, crowded, walked}
use Rattle.walking.proofs.rules.walk_rule.Goals as goal

pub returns-in_err-next-clause-walked : goal.returns-in_err-next-clause-walked
returns-in_err-next-clause-walked c R lo r heads x few =
    let t = c.args.debts.now.tables.now in let e = c.args.entry in let g = walk_body R (owed_of t) r in let q = c.in_err-next in
    let declared = subst (λ (l : Laid). Declared (Err q.field-0.0) (params_at (columns_of l) e) e.place (entries c.declare.new.names) (entries c.declare.new.lengths)) c.laid.ensures q.ensures.declared in
    subst (λ (result : Result (Unit {0}) Refusal). Bodied result (start_known r) g lo e.body t t) (sym (refused c.from_residual.result q.field-0.0 c.from_residual.ensures.1))
    (many (columns_of t) lo e r x g q.field-0.0 declared)

pub returns-in_err-start_facts-clause-walked : goal.returns-in_err-start_facts-clause-walked
returns-in_err-start_facts-clause-walked c R lo r heads x few =
    let t = c.args.debts.now.tables.now in let e = c.args.entry in let g = walk_body R (owed_of t) r in let q = c.in_err-start_facts in
    let ts = entries c.declare.new.names in let ls = entries c.declare.new.lengths in let fs = entries c.over.result in let after = entries c.start_facts.new.facts.pile in
    let declared = subst (λ (l : Laid). Declared (Ok c.in_ok-next.next) (params_at (columns_of l) e) e.place ts ls) c.laid.ensures c.in_ok-next.ensures.declared in
    let known = ap₂ (λ a b. needs_known e.place fs a b (listed_in (columns_of c.laid-2.result.now) e.needs)) c.as_slice.ensures c.as_slice-2.ensures ∙ ap (λ (l : Laid). needs_known e.place fs ts ls (listed_in (columns_of l) e.needs)) c.laid-2.ensures in
    subst (λ (result : Result (Unit {0}) Refusal). Bodied result (start_known r) g lo e.body t t) (sym (refused c.from_residual-in_err-start_facts.result q.field-0.0 c.from_residual-in_err-start_facts.ensures.1))
    (crowded (columns_of t) lo e r x c.in_ok-next.next ts ls fs declared.0 declared.1 c.over.ensures.empty g q.field-0.0 after (subst (λ (k : Known). Took (Err q.field-0.0) k fs after) known q.ensures.took))

pub check-requires-clause-room : goal.check-requires-clause-room
check-requires-clause-room c =
    omega (arith, few_names _ _ (entries c.declare.new.names) (entries c.declare.new.lengths) c.in_ok-next.ensures.declared.1, c.declare.ensures.room, c.over-names.ensures.room, c.requires.room, c.if-entry-ge-MOST_NODES.false)

pub returns-clause-walked : goal.returns-clause-walked
returns-clause-walked c R lo r heads x few =
    let t = c.args.debts.now.tables.now in let e = c.args.entry in let k = c.in_ok-start_facts in
    let ts = entries c.declare.new.names in let ls = entries c.declare.new.lengths in let fs = entries c.over.result in let after = entries c.start_facts.new.facts.pile in
    let declared = subst (λ (l : Laid). Declared (Ok c.in_ok-next.next) (params_at (columns_of l) e) e.place ts ls) c.laid.ensures c.in_ok-next.ensures.declared in
    let known = ap₂ (λ a b. needs_known e.place fs a b (listed_in (columns_of c.laid-2.result.now) e.needs)) c.as_slice.ensures c.as_slice-2.ensures ∙ ap (λ (l : Laid). needs_known e.place fs ts ls (listed_in (columns_of l) e.needs)) c.laid-2.ensures in
    let took = subst (λ (k : Known). Took (Ok tt) k fs after) known k.ensures.took in
    let last = IfOk-weaker c.check.result (λ z. Kept _ c.check.new.self) (λ z. c.check.new.self.debts.now.tables.now ≡ c.debts-1.given.0.tables.now) (λ z k. ap (λ (d : Debts). d.tables.now) (sym (c.debts-1.given.1 (sym k.debts)))) c.check.ensures.kept in
    walked (columns_of t) lo e r x c.in_ok-next.next ts ls fs declared.0 declared.1 c.over.ensures.empty after took R c.mark.result c.as_slice-3.result.now _ c.check.new.self c.check.result t c.debts-1.given.0.tables.now c.mark.ensures c.as_slice-3.ensures refl last
    (c.check.ensures.checks (omega arith) R lo r.body heads x.body)

pub returns-clause-sound : goal.returns-clause-sound
returns-clause-sound c = IfOk-weaker c.check.result (λ z. Kept _ c.check.new.self) (λ z. Sound (columns_of c.debts-1.given.0.tables.now)) (λ z k. subst (λ (d : Debts). Sound (columns_of d.tables.now)) (sym (c.debts-1.given.1 (sym k.debts))) k.sure.sound) c.check.ensures.kept

pub returns-clause-kept : goal.returns-clause-kept
returns-clause-kept c = IfOk-weaker c.check.result (λ z. Kept _ c.check.new.self) (λ z. DebtsKept c.args.debts.now c.debts-1.given.0) (λ z k. record { lender = ap (λ (d : Debts). d.tables.ghost_name) (c.debts-1.given.1 (sym k.debts)) ∙ k.lender }) c.check.ensures.kept
