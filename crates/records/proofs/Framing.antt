-- What stands still stands where its nodes, the conditions and the items stay.
use Rattle.std.proofs.Common.{◌≡◌, ℕ, suc, ◌<◌, ◌≤◌, List, [], ◌∷◌, length, Some, sym, ◌∙◌, subst, ap₂, arith}
use Rattle.std.proofs.lemmas.Option.{slice_get_within}
use Rattle.std.specs.List.{AllByRecursion, slice_get}
use Rattle.language.specs.Tree as Tree
use Rattle.language.specs.Tree.{Expr, Args, Rule}
use Rattle.records.specs.declared.node.Node.{Node}
use Rattle.records.specs.declared.condition.Item.{Item}
use Rattle.records.specs.declared.condition.Condition.{Condition}
use Rattle.records.specs.declared.entry.Param.{Param}
use Rattle.records.specs.declared.entry.Entry.{Entry}
use Rattle.records.specs.Tables.{Tables, stretch, conditions_in}
use Rattle.records.specs.Standing.{SidesIn, Listed, Stands, num, name, calc, read, call, bind, test, put, claim, ArgsStand, end, value, lent}
use Rattle.records.specs.Rules.{RuleStands, RulesStand}
use Rattle.records.proofs.Standing.{low_end, args-low-end}

-- a position lies among the nodes
pub stands_within : (t : Tables) (lo at : ℕ) (e : Expr) → Stands t lo at e → at < length t.nodes
stands_within t lo at e (num h l) = slice_get_within _ at _ h
stands_within t lo at e (name h l) = slice_get_within _ at _ h
stands_within t lo at e (calc h a b x y) = slice_get_within _ at _ h
stands_within t lo at e (read h a x) = slice_get_within _ at _ h
stands_within t lo at e (call h a x) = slice_get_within _ at _ h
stands_within t lo at e (bind h a b x y) = slice_get_within _ at _ h
stands_within t lo at e (test h a b c d x y u v) = slice_get_within _ at _ h
stands_within t lo at e (put h a b c x y u) = slice_get_within _ at _ h
stands_within t lo at e (claim h a x l) = slice_get_within _ at _ h

pub args_within : (t : Tables) (lo at : ℕ) (xs : Args) → ArgsStand t lo at xs → at < length t.nodes
args_within t lo at xs (end h l) = slice_get_within _ at _ h
args_within t lo at xs (value h a b x y) = slice_get_within _ at _ h
args_within t lo at xs (lent h b y) = slice_get_within _ at _ h

-- the nodes from a position up to another stay
abbrev pub SameNodes : Tables → Tables → ℕ → ℕ → Type 0
SameNodes t u lo at = (k : ℕ) → lo ≤ k → k ≤ at → slice_get u.nodes k ≡ slice_get t.nodes k

module _ (t u : Tables) (ds : u.conditions ≡ t.conditions) (is : u.items ≡ t.items) where
  pub listed_framed : (from to : ℕ) (cs : List Tree.Condition) → Listed t from to cs → Listed u from to cs
  listed_framed from to cs l = record {
    within = subst (λ (xs : List Condition). to ≤ length xs) (sym ds) l.within;
    sides =
        subst (λ (xs : List Condition). AllByRecursion (SidesIn (length u.items)) (stretch xs from to)) (sym ds)
        (subst (λ (xs : List Item). AllByRecursion (SidesIn (length xs)) (stretch t.conditions from to)) (sym is) l.sides);
    reads = ap₂ (λ xs ys. conditions_in xs ys from to) is ds ∙ l.reads;
  }

  -- of positions from lo up to at, those from a higher one up to a lower one
  part_of : (lo at l a : ℕ) → lo ≤ l → a ≤ at → SameNodes t u lo at → SameNodes t u l a
  part_of lo at l a h m s k x y = s k (omega arith) (omega arith)

  at_framed : (lo at : ℕ) (n : Node) → lo ≤ at → SameNodes t u lo at → slice_get t.nodes at ≡ Some n → slice_get u.nodes at ≡ Some n
  at_framed lo at n h s g = s at h (omega arith) ∙ g

  mutual
    pub framed : (lo at : ℕ) (e : Expr) → SameNodes t u lo at → Stands t lo at e → Stands u lo at e
    framed lo at e s (num h l) = num (at_framed lo at _ l s h) l
    framed lo at e s (name h l) = name (at_framed lo at _ l s h) l
    framed lo at e s (calc {a = i} {b = j} h a b x y) =
        let l = low_end t lo i _ x in
        calc (at_framed lo at _ (omega (arith, a, l)) s h) a b (framed lo i _ (part_of lo at lo i (omega arith) (omega arith) s) x) (framed (suc i) j _ (part_of lo at (suc i) j (omega arith) (omega arith) s) y)
    framed lo at e s (read {a = i} h a x) =
        let l = low_end t lo i _ x in
        read (at_framed lo at _ (omega (arith, a, l)) s h) a (framed lo i _ (part_of lo at lo i (omega arith) (omega arith) s) x)
    framed lo at e s (call {a = i} h a x) =
        let l = args-low-end t lo i _ x in
        call (at_framed lo at _ (omega (arith, a, l)) s h) a (args_framed lo i _ (part_of lo at lo i (omega arith) (omega arith) s) x)
    framed lo at e s (bind {a = i} {b = j} h a b x y) =
        let l = low_end t lo i _ x in
        bind (at_framed lo at _ (omega (arith, a, l)) s h) a b (framed lo i _ (part_of lo at lo i (omega arith) (omega arith) s) x) (framed (suc i) j _ (part_of lo at (suc i) j (omega arith) (omega arith) s) y)
    framed lo at e s (test {a = i} {b = j} {d = k} {e = m} h a b c d x y p q) =
        let l = low_end t lo i _ x in
        let r = low_end t (suc i) j _ y in
        let o = low_end t (suc j) k _ p in
        test (at_framed lo at _ (omega (arith, a, l)) s h) a b c d
        (framed lo i _ (part_of lo at lo i (omega arith) (omega arith) s) x)
        (framed (suc i) j _ (part_of lo at (suc i) j (omega arith) (omega arith) s) y)
        (framed (suc j) k _ (part_of lo at (suc j) k (omega arith) (omega arith) s) p)
        (framed (suc k) m _ (part_of lo at (suc k) m (omega arith) (omega arith) s) q)
    framed lo at e s (put {a = i} {b = j} {e = k} h a b c x y p) =
        let l = low_end t lo i _ x in
        let r = low_end t (suc i) j _ y in
        put (at_framed lo at _ (omega (arith, a, l)) s h) a b c
        (framed lo i _ (part_of lo at lo i (omega arith) (omega arith) s) x)
        (framed (suc i) j _ (part_of lo at (suc i) j (omega arith) (omega arith) s) y)
        (framed (suc j) k _ (part_of lo at (suc j) k (omega arith) (omega arith) s) p)
    framed lo at e s (claim {a = i} {s = c} h a x q) =
        let l = low_end t lo i _ x in
        claim (at_framed lo at _ (omega (arith, a, l)) s h) a (framed lo i _ (part_of lo at lo i (omega arith) (omega arith) s) x) (listed_framed c.from c.to _ q)

    pub args_framed : (lo at : ℕ) (xs : Args) → SameNodes t u lo at → ArgsStand t lo at xs → ArgsStand u lo at xs
    args_framed lo at xs s (end h l) = end (at_framed lo at _ l s h) l
    args_framed lo at xs s (value {a = i} {b = j} h a b x y) =
        let l = args-low-end t lo j _ x in
        value (at_framed lo at _ (omega (arith, b, l)) s h) a b (args_framed lo j _ (part_of lo at lo j (omega arith) (omega arith) s) x) (framed (suc j) i _ (part_of lo at (suc j) i (omega arith) (omega arith) s) y)
    args_framed lo at xs s (lent {b = j} h b x) =
        let l = args-low-end t lo j _ x in
        lent (at_framed lo at _ (omega (arith, b, l)) s h) b (args_framed lo j _ (part_of lo at lo j (omega arith) (omega arith) s) x)

  -- a rule, whose body's nodes stay
  pub rule_framed : (ps : List Param) (lo : ℕ) (e : Entry) (r : Rule) → SameNodes t u lo e.body → RuleStands t ps lo e r → RuleStands u ps lo e r
  rule_framed ps lo e r s x =
      let b = framed lo e.body r.body s x.body in record {
        place = x.place;
        within = x.within;
        params = x.params;
        needs = listed_framed e.needs.from e.needs.to r.needs x.needs;
        gives = listed_framed e.gives.from e.gives.to r.gives x.gives;
        below = stands_within u lo e.body r.body b;
        body = b;
      }

  -- rules, where the nodes stay from their first on up to a position that no body lies above
  pub rules_framed : (ps : List Param) (lo top : ℕ) (es : List Entry) (rs : List Rule) → AllByRecursion (λ (e : Entry). e.body ≤ top) es → SameNodes t u lo top → RulesStand t ps lo es rs → RulesStand u ps lo es rs
  rules_framed ps lo top [] [] b s x = tt
  rules_framed ps lo top [] (r ∷ rs) b s x = x
  rules_framed ps lo top (e ∷ es) [] b s x = x
  rules_framed ps lo top (e ∷ es) (r ∷ rs) b s x =
      let l = low_end t lo e.body r.body x.0.body in (
        rule_framed ps lo e r (part_of lo top lo e.body (omega arith) b.0 s) x.0,
        rules_framed ps (suc e.body) top es rs b.1 (part_of lo top (suc e.body) top (omega arith) (omega arith) s) x.1,
      )

  -- rules, where all nodes of the tables stay from their first on
  pub rules_framed_all : (ps : List Param) (lo : ℕ) (es : List Entry) (rs : List Rule) → ((k : ℕ) → lo ≤ k → k < length t.nodes → slice_get u.nodes k ≡ slice_get t.nodes k) → RulesStand t ps lo es rs → RulesStand u ps lo es rs
  rules_framed_all ps lo [] [] s x = tt
  rules_framed_all ps lo [] (r ∷ rs) s x = x
  rules_framed_all ps lo (e ∷ es) [] s x = x
  rules_framed_all ps lo (e ∷ es) (r ∷ rs) s x =
      let l = low_end t lo e.body r.body x.0.body in
      let w = x.0.below in (
        rule_framed ps lo e r (λ k p q. s k p (omega arith)) x.0,
        rules_framed_all ps (suc e.body) es rs (λ k p q. s k (omega arith) q) x.1,
      )
