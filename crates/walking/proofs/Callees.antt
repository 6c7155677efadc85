-- Whether a call's rule takes its arguments, by the entry that is given for it.
use Rattle.std.proofs.Common.{◌≡◌, ℕ, suc, ◌≤◌, Bool, true, false, ltb, ◌&&◌, List, [], ◌∷◌, length, Some, None, Option, sym, refl, ap, ◌∙◌, subst, ap₂, arith}
use Rattle.std.proofs.lemmas.Bool.{lt-ltb, le-ltb}
use Rattle.std.specs.List.{slice_get}
use Rattle.language.specs.Tree.{Args, Rule, Param, a_number, a_list, rule_at, shape}
use Rattle.language.specs.Walking.{callable, same_params}
use Rattle.records.specs.declared.entry.Entry.{Entry}
use Rattle.records.specs.declared.laid.Laid.{Laid}
use Rattle.records.specs.Laying.{columns_of}
use Rattle.records.specs.Columns.{Columns, tables_by}
use Rattle.records.specs.Standing.{ArgsStand}
use Rattle.walking.specs.Calling.{Callee, NoCallee, CalleeOf}
use Rattle.walking.specs.Inferring.{HeadOf, HeadsIn}
use Rattle.walking.proofs.Heads.{headed, none_past}

same-length : (ps qs : List Param) → same_params ps qs ≡ true → length ps ≡ length qs
unfolding same_params
same-length [] [] e = refl
same-length [] (q ∷ qs) e = cc
same-length (p ∷ ps) [] e = cc
same-length (a_number ∷ ps) (a_number ∷ qs) e = ap suc (same-length ps qs e)
same-length (a_number ∷ ps) (a_list ∷ qs) e = cc
same-length (a_list ∷ ps) (a_number ∷ qs) e = cc
same-length (a_list ∷ ps) (a_list ∷ qs) e = ap suc (same-length ps qs e)

-- the entry is the head of the rule with its number, which takes the arguments; they are few
pub record Called (c : Columns) (R : List Rule) (f : ℕ) (e : Entry) (es : Args) : Type 0 where
  pub head : HeadOf c e (rule_at R f)
  pub takes : callable R f es ≡ true
  pub few : length (shape es) ≤ 12

module _ (c : Columns) (R : List Rule) (f at lo : ℕ) (es : Args) (h : HeadsIn c R) (x : ArgsStand (tables_by c) lo at es) where
  pub called : (e : Entry) → Callee e c f at → Called c R f e es
  called e k =
      let d = headed c c.entries.entries R f e h k.is in
      let same : same_params (shape es) (rule_at R f).params ≡ true = ap (same_params (shape es)) (sym d.head.params) ∙ sym (k.takes lo es x) in
      let long = same-length (shape es) (rule_at R f).params same in
      record { head = d.head; takes = ap₂ ◌&&◌ (lt-ltb f (length R) d.there) same; few = omega (arith, long, d.head.few) }

  pub not-called : NoCallee c f at → callable R f es ≡ false
  not-called k = go (slice_get c.entries.entries f) refl
    where
      both : (a b : Bool) → b ≡ false → (a && b) ≡ false
      both true b e = e
      both false b e = refl

      go : (o : Option Entry) → slice_get c.entries.entries f ≡ o → callable R f es ≡ false
      go None g = ap (λ b. b && same_params (shape es) (rule_at R f).params) (le-ltb f (length R) (none_past c c.entries.entries R f h g))
      go (Some e) g =
          let d = headed c c.entries.entries R f e h g in
          both (ltb f (length R)) _ (ap (same_params (shape es)) (sym d.head.params) ∙ sym (k.none e g lo es x lo es x))

-- what is found of the tables' entries
module _ (o : Option Entry) (t u : Laid) (f at : ℕ) (e : u ≡ t) (k : CalleeOf o (columns_of u) f at) where
  found : (q : Option Entry) → o ≡ q → CalleeOf q (columns_of t) f at
  found q x = subst (λ (p : Option Entry). CalleeOf p (columns_of t) f at) x (subst (λ (v : Laid). CalleeOf o (columns_of v) f at) e k)

  pub callee-found : (d : Entry) → o ≡ Some d → Callee d (columns_of t) f at
  callee-found d x = found (Some d) x

  pub none-found : o ≡ None → NoCallee (columns_of t) f at
  none-found x = found None x
