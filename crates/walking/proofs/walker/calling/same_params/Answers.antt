use Rattle.std.proofs.Common.{List, map, sym, ap, ◌∙◌, subst}
use Rattle.language.specs.Tree.{shape}
use Rattle.language.specs.Walking.{same_params}
use Rattle.records.specs.declared.entry.Param.{Param}
use Rattle.records.specs.Columns.{tables_by}
use Rattle.records.specs.Laying.{columns_of}
use Rattle.records.specs.Leaving.{left_of}
use Rattle.records.specs.Tables.{stretch, param_of}
use Rattle.walking.specs.Calling.{after, is_end}
use Rattle.walking.proofs.Shapes.{Shaping, shaping_turn, shaping-stop, shaping-end}
use Rattle.walking.proofs.walker.calling.same_params.Goals as goal

pub loop-param-preserved : goal.loop-param-preserved
loop-param-preserved c =
    let p = columns_of c.args.tables.now in let t = tables_by p in let here = c.loop-param.at in let s = c.args.params in
    let left = left_of (λ c. c.params) c.next.new.self in record {
      shaping = λ lo es x.
          let b = same_params (shape es) (map param_of (stretch p.params.entries s.from s.to)) in
          shaping_turn t b here c.in-Some-after.rest c.in-Some.param (map param_of left)
          (subst (λ (ps : List Param). Shaping t b here (map param_of ps)) c.in-Some.ensures.steps (c.loop-param.invariant.shaping lo es x))
          (c.in-Some-after.ensures ∙ ap (λ o. after o c.in-Some.param) c.get.ensures);
    }

pub returns-in_default : goal.returns-in_default
returns-in_default c lo es x =
    let p = columns_of c.args.tables.now in let t = tables_by p in let here = c.loop-param.at in let s = c.args.params in
    let b = same_params (shape es) (map param_of (stretch p.params.entries s.from s.to)) in
    let left = left_of (λ c. c.params) c.next.new.self in
    shaping-stop t b here c.in-Some.param (map param_of left)
    (subst (λ (ps : List Param). Shaping t b here (map param_of ps)) c.in-Some.ensures.steps (c.loop-param.invariant.shaping lo es x))
    (sym c.in_default.is ∙ c.after.ensures ∙ ap (λ o. after o c.in-Some.param) c.get.ensures)

pub returns : goal.returns
returns c lo es x =
    let p = columns_of c.args.tables.now in let t = tables_by p in let here = c.loop-param.at in let s = c.args.params in
    let b = same_params (shape es) (map param_of (stretch p.params.entries s.from s.to)) in
    c.is_end.ensures ∙ ap is_end c.get-2.ensures
    ∙ shaping-end t b here (subst (λ (ps : List Param). Shaping t b here (map param_of ps)) c.in-None.ensures.steps.0 (c.loop-param.invariant.shaping lo es x))
