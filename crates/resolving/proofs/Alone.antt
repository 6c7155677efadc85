-- What steps leave alone that put entries into one or two tables.
use Rattle.std.proofs.Common.{◌≡◌, true, [], ◌∷◌, sym, refl, ap, ◌∙◌, subst}
use Rattle.std.proofs.ByRecursion.{All-append}
use Rattle.language.specs.Terms.{near}
use Rattle.records.specs.Sound.{Near}
use Rattle.records.specs.declared.condition.Condition.{Condition}
use Rattle.records.specs.declared.condition.Item.{Item}
use Rattle.records.specs.declared.entry.Param.{Param}
use Rattle.records.specs.Columns.{Column, Columns, pushed}
use Rattle.resolving.specs.Making.{ItemsAlone, ConditionsAlone, ParamsAlone}

abbrev pub with_item : Columns → Item → Columns
with_item p x = record p { items = pushed p.items x }

abbrev pub with_condition : Columns → Condition → Columns
with_condition p x = record p { conditions = pushed p.conditions x }

abbrev pub with_param : Columns → Param → Columns
with_param p x = record p { params = pushed p.params x }

module _ (p q : Columns) where
  pub item_alone : (x : Item) → near x.factor ≡ true → q ≡ with_item p x → ItemsAlone p q
  item_alone x n e = record { room = ap (λ (c : Columns). c.items.room) e; near = λ h. subst (λ (c : Columns). Near c.items.entries) (sym e) (All-append (λ (i : Item). near i.factor ≡ true) p.items.entries (x ∷ []) h (n, tt)); rest = e ∙ ap (λ (i : Column Item). record p { items = i }) (sym (ap (λ (c : Columns). c.items) e)) }

  pub condition_alone : (x : Condition) → q ≡ with_condition p x → ConditionsAlone p q
  condition_alone x e = record {
    items = ap (λ (c : Columns). c.items.room) e;
    near = subst (λ (c : Columns). Near c.items.entries) (sym e);
    room = ap (λ (c : Columns). c.conditions.room) e;
    rest = e ∙ ap (λ (d : Column Condition). record p { conditions = d }) (sym (ap (λ (c : Columns). c.conditions) e))
        ∙ ap (λ (i : Column Item). record p { conditions = q.conditions; items = i }) (sym (ap (λ (c : Columns). c.items) e));
  }

  pub param_alone : (x : Param) → q ≡ with_param p x → ParamsAlone p q
  param_alone x e = record { room = ap (λ (c : Columns). c.params.room) e; rest = e ∙ ap (λ (i : Column Param). record p { params = i }) (sym (ap (λ (c : Columns). c.params) e)) }

pub items_alone : {p q : Columns} → ItemsAlone p q → ConditionsAlone p q
items_alone {p = p} {q = q} a = record {
  items = a.room;
  near = a.near;
  room = ap (λ (c : Columns). c.conditions.room) a.rest;
  rest = a.rest ∙ ap (λ (d : Column Condition). record p { conditions = d; items = q.items }) (sym (ap (λ (c : Columns). c.conditions) a.rest));
}

pub items_then : {p q r : Columns} → ItemsAlone p q → ItemsAlone q r → ItemsAlone p r
items_then {r = r} a b = record { room = b.room ∙ a.room; near = λ h. b.near (a.near h); rest = b.rest ∙ ap (λ (c : Columns). record c { items = r.items }) a.rest }

pub conditions_then : {p q r : Columns} → ConditionsAlone p q → ConditionsAlone q r → ConditionsAlone p r
conditions_then {r = r} a b = record { items = b.items ∙ a.items; near = λ h. b.near (a.near h); room = b.room ∙ a.room; rest = b.rest ∙ ap (λ (c : Columns). record c { conditions = r.conditions; items = r.items }) a.rest }

pub params_then : {p q r : Columns} → ParamsAlone p q → ParamsAlone q r → ParamsAlone p r
params_then {r = r} a b = record { room = b.room ∙ a.room; rest = b.rest ∙ ap (λ (c : Columns). record c { params = r.params }) a.rest }

pub items_none : {p : Columns} → ItemsAlone p p
items_none = record { room = refl; near = λ h. h; rest = refl }

pub conditions_none : {p : Columns} → ConditionsAlone p p
conditions_none = record { items = refl; near = λ h. h; room = refl; rest = refl }

pub params_none : {p : Columns} → ParamsAlone p p
params_none = record { room = refl; rest = refl }
