use Rattle.std.proofs.Common.{◌∷◌, ℕ, List, Result, map, sym, ◌∙◌, subst, arith}
use Rattle.language.specs.declared.refusal.Refusal.{Refusal}
use Rattle.language.specs.Tree.{a_number, a_list}
use Rattle.pile.specs.Entries.{entries}
use Rattle.records.specs.declared.entry.Param.{Param}
use Rattle.records.specs.Laying.{columns_of}
use Rattle.records.specs.Leaving.{left_of}
use Rattle.records.specs.Tables.{param_of}
use Rattle.walking.specs.Starting.{Declared, params_at}
use Rattle.walking.proofs.Knowings.{refused}
use Rattle.walking.proofs.Starting.{Started, started_number, started_list, started-end, started-full, few_enough, left_some, names_room}
use Rattle.walking.proofs.rules.declare.Goals as goal

pub returns-in_err-term-clause-declared : goal.returns-in_err-term-clause-declared
returns-in_err-term-clause-declared c =
    let a = c.args in let l = c.loop-param in let ts = entries l.names in let ls = entries l.lengths in let e = c.in_err-term in
    let whole = params_at (columns_of a.tables.now) a.entry in let left = left_of (λ c. c.params) c.next.new.self in
    let s : Started whole (param_of c.in-Some.param ∷ map param_of left) l.next ts ls = subst (λ (ps : List Param). Started whole (map param_of ps) l.next ts ls) c.in-Some.ensures.steps l.invariant.started in
    subst (λ (r : Result ℕ Refusal). Declared r whole a.entry.place ts ls) (sym (refused c.from_residual.result e.field-0.0 c.from_residual.ensures.1))
    (started-full whole (param_of c.in-Some.param) (map param_of left) l.next a.entry.place ts ls e.field-0.0 s e.ensures.0)

pub put-requires : goal.put-requires
put-requires c =
    let l = c.loop-param in let h = left_some c.args.entry.place l.next c.in_ok-term.ensures.2 in
    omega (arith, names_room _ _ l.next (entries l.names) (entries l.lengths) l.invariant.started h, c.requires.names_room, l.invariant.names_room)

pub loop-param-preserved-in-Number : goal.loop-param-preserved-in-Number
loop-param-preserved-in-Number c =
    let a = c.args in let l = c.loop-param in let ts = entries l.names in let ls = entries l.lengths in let k = c.in_ok-term in
    let whole = params_at (columns_of a.tables.now) a.entry in let left = left_of (λ c. c.params) c.next.new.self in
    let h = left_some a.entry.place l.next k.ensures.2 in
    let s : Started whole (a_number ∷ map param_of left) l.next ts ls =
    subst (λ (p : Param). Started whole (param_of p ∷ map param_of left) l.next ts ls) c.in-Number.is (subst (λ (ps : List Param). Started whole (map param_of ps) l.next ts ls) c.in-Some.ensures.steps l.invariant.started) in
    record {
      started = started_number whole (map param_of left) l.next c.fresh.new.next ts (entries c.put.new.pile) ls k.term h k.ensures.0 k.ensures.1 c.put.ensures.held s;
      names_room = c.put.ensures.room ∙ l.invariant.names_room;
      lengths_room = l.invariant.lengths_room;
    }

pub put-requires-in-List : goal.put-requires-in-List
put-requires-in-List c =
    let l = c.loop-param in let h = left_some c.args.entry.place l.next c.in_ok-term.ensures.2 in
    omega (arith, l.invariant.started.short, h, c.requires.lengths_room, l.invariant.lengths_room)

pub loop-param-preserved : goal.loop-param-preserved
loop-param-preserved c =
    let a = c.args in let l = c.loop-param in let ts = entries l.names in let ls = entries l.lengths in let k = c.in_ok-term in
    let whole = params_at (columns_of a.tables.now) a.entry in let left = left_of (λ c. c.params) c.next.new.self in
    let h = left_some a.entry.place l.next k.ensures.2 in
    let s : Started whole (a_list ∷ map param_of left) l.next ts ls =
    subst (λ (p : Param). Started whole (param_of p ∷ map param_of left) l.next ts ls) c.in-List.is (subst (λ (ps : List Param). Started whole (map param_of ps) l.next ts ls) c.in-Some.ensures.steps l.invariant.started) in
    record {
      started = started_list whole (map param_of left) l.next c.fresh.new.next ts (entries c.put.new.pile) ls k.term h k.ensures.0 k.ensures.1 c.put.ensures.held (entries c.put-in-List.new.pile) c.put-in-List.ensures.held s;
      names_room = c.put.ensures.room ∙ l.invariant.names_room;
      lengths_room = c.put-in-List.ensures.room ∙ l.invariant.lengths_room;
    }

pub returns-clause-declared : goal.returns-clause-declared
returns-clause-declared c =
    let a = c.args in let l = c.loop-param in let ts = entries l.names in let ls = entries l.lengths in
    let whole = params_at (columns_of a.tables.now) a.entry in
    let d = started-end whole l.next ts ls (subst (λ (ps : List Param). Started whole (map param_of ps) l.next ts ls) c.in-None.ensures.steps.0 l.invariant.started) in
    (few_enough whole a.entry.place (omega (arith, d.next, d.few)), d)
