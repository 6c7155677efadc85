-- Conditions in their tables: one from its two sides, and one after another.
use Rattle.std.proofs.Common.{◌≡◌, ℕ, suc, ◌-◌, ◌<◌, Bool, true, false, cond, List, [], ◌∷◌, ◌++◌, map, length, take, None, sym, refl, ap, ◌∙◌, subst, ap₂, arith}
use Rattle.std.proofs.lemmas.List.{append-nil, append_assoc, length-append, drop_at, take_all, map-append}
use Rattle.std.proofs.ByRecursion.{All-append}
use Rattle.letters.specs.declared.token.Token.{Token}
use Rattle.letters.specs.declared.kind.Kind.TheVariants.{Numeral, Times}
use Rattle.letters.specs.Kinds.{same_kind}
use Rattle.grammar.specs.Parsers.{Look, is_a}
use Rattle.grammar.specs.Raw as Raw
use Rattle.grammar.specs.Sheets.{plain_item, times_item}
use Rattle.grammar.specs.Stretches.{Past, past, item_at}
use Rattle.naming.specs.Scopes.{Scope}
use Rattle.language.specs.Tree as Tree
use Rattle.records.specs.declared.condition.Condition.{Condition}
use Rattle.records.specs.declared.condition.Item.{Item}
use Rattle.records.specs.Tables.{stretch, item_of, side_in, condition_in}
use Rattle.records.specs.Standing.{SidesIn}
use Rattle.records.proofs.Stretches.{stays}
use Rattle.records.proofs.Standing.{more-more, conditions-stay, longer, sides-in}
use Rattle.naming.specs.Resolving as Resolving
use Rattle.naming.specs.Resolving.{side_place, item_place}
use Rattle.resolving.specs.Making.{Small, Added, Listing, Formed}

-- what was added is a stretch of the table
pub stretched : {X : Type 0} (xs more : List X) → stretch (xs ++ more) (length xs) (length (xs ++ more)) ≡ more
stretched xs more =
    ap (take (length (xs ++ more) - length xs)) (drop_at xs more (length xs) refl) ∙ take_all (length (xs ++ more) - length xs) more (omega (arith, length-append xs more))

side-added : (ys : Tree.Side) (xs xs' : List Item) → Added item_of ys xs xs' → side_in xs' (length xs) (length xs') ≡ ys
unfolding side_in
side-added ys xs xs' a = ap (λ l. map item_of (stretch l (length xs) (length l))) a.grown ∙ ap (map item_of) (stretched xs a.more) ∙ a.stand

side-kept : (ys : Tree.Side) (xs xs' more : List Item) → Added item_of ys xs xs' → side_in (xs' ++ more) (length xs) (length xs') ≡ ys
unfolding side_in
side-kept ys xs xs' more a = ap (map item_of) (stays xs' more (length xs) (length xs') (omega arith)) ∙ side-added ys xs xs' a

-- a factor, like any numeral, has six digits at most
pub small_item : (l : Look) → ((q : ℕ) → Small (l q)) → (m : Bool) (i : ℕ) → Resolving.factor_of (item_at l m i).value.factor (item_at l m i).value.atom < 1000000
small_item l fit m i = go (is_a Numeral (l i)) (is_a Times (l (suc i)))
  where
    plain : (t : Token) → Small t → Resolving.factor_of None t < 1000000
    plain t s = by_kind (same_kind t.kind Numeral)
      where
        by_kind : (b : Bool) → cond b t.value 1 < 1000000
        by_kind true = s.value
        by_kind false = omega arith

    go : (b t : Bool) → let p : Past Raw.Item = cond b (cond t (past (times_item m (l i) (l (suc (suc i)))) (suc (suc (suc i)))) (past (plain_item m (l i)) (suc i))) (past (plain_item m (l i)) (suc i)) in Resolving.factor_of p.value.factor p.value.atom < 1000000
    go true true = (fit i).value
    go true false = plain (l i) (fit i)
    go false t = plain (l i) (fit i)

module _ (text : List ℕ) (Γ : Scope) where
  pub formed : (r : Raw.Condition) (c : Condition) (xs xs' xs'' : List Item) → Added item_of (map (Resolving.item_of text Γ) r.left) xs xs' → Added item_of (map (Resolving.item_of text Γ) r.right) xs' xs''
      → c.place ≡ side_place r.left → c.comparison ≡ Resolving.comparison_of r.comparison.kind → c.left.from ≡ length xs → c.left.to ≡ length xs' → c.right.from ≡ length xs' → c.right.to ≡ length xs'' → Formed (Resolving.condition_of text Γ r) c xs xs''
  formed r c xs xs' xs'' a b p s f m n t = record {
    items = more-more xs xs' xs'' (a.more, a.grown) (b.more, b.grown);
    sides = record { joined = m ∙ sym n; left = omega (arith, ap length b.grown, length-append xs' b.more); right = omega arith };
    stand =
        ap₂ (λ x y. record { place = x; left = side_in xs'' c.left.from c.left.to; comparison = y; right = side_in xs'' c.right.from c.right.to }) p s
        ∙ ap₂ (λ x y. record { place = side_place r.left; left = x; comparison = Resolving.comparison_of r.comparison.kind; right = y })
        (ap₂ (side_in xs'') f m ∙ ap (λ l. side_in l (length xs) (length xs')) b.grown ∙ side-kept _ xs xs' b.more a)
        (ap₂ (side_in xs'') n t ∙ side-added _ xs' xs'' b);
  }

pub listing_none : (ds : List Condition) (is : List Item) → Listing [] ds ds is is
listing_none ds is = record { more = []; grown = sym (append-nil ds); items = ([], sym (append-nil is)); sides = tt; stand = refl }

pub listing-one : (y : Tree.Condition) (c : Condition) (ds ds' : List Condition) (is is' : List Item) → Formed y c is is' → ds' ≡ ds ++ c ∷ [] → Listing (y ∷ []) ds ds' is is'
listing-one y c ds ds' is is' f e = record { more = c ∷ []; grown = e; items = f.items; sides = (f.sides, tt); stand = ap (λ x. x ∷ []) f.stand }

pub listing-then : (ys zs : List Tree.Condition) (ds ds' ds'' : List Condition) (is is' is'' : List Item) → Listing ys ds ds' is is' → Listing zs ds' ds'' is' is'' → Listing (ys ++ zs) ds ds'' is is''
listing-then ys zs ds ds' ds'' is is' is'' a b =
    let xs = b.items.0 in let e : is'' ≡ is' ++ xs = b.items.1 in record {
      more = a.more ++ b.more;
      grown = b.grown ∙ ap (λ l. l ++ b.more) a.grown ∙ append_assoc ds a.more b.more;
      items = more-more is is' is'' a.items b.items;
      sides = All-append (SidesIn (length is'')) a.more b.more (sides-in (length is') (length is'') (omega (arith, ap length e, longer is' xs)) a.more a.sides) b.sides;
      stand = map-append (condition_in is'') a.more b.more
          ∙ ap₂ ◌++◌ (ap (λ l. map (condition_in l) a.more) e ∙ conditions-stay is' xs a.more a.sides ∙ a.stand) b.stand;
    }

-- some conditions are in the tables, and these are left
pub record Under (F : Raw.Condition → Tree.Condition) (all left : List Raw.Condition) (ds ds' : List Condition) (is is' : List Item) : Type 0 where
  pub done : List Tree.Condition
  pub listing : Listing done ds ds' is is'
  pub rest : done ++ map F left ≡ map F all

module _ (F : Raw.Condition → Tree.Condition) where
  pub under_none : (all : List Raw.Condition) (ds : List Condition) (is : List Item) → Under F all all ds ds is is
  under_none all ds is = record { done = []; listing = listing_none ds is; rest = refl }

  pub under-turn : (all left rest : List Raw.Condition) (r : Raw.Condition) (c : Condition) (ds ds' ds'' : List Condition) (is is' is'' : List Item) → Under F all left ds ds' is is' → left ≡ r ∷ rest → Formed (F r) c is' is'' → ds'' ≡ ds' ++ c ∷ [] → Under F all rest ds ds'' is is''
  under-turn all left rest r c ds ds' ds'' is is' is'' u l f e = record {
    done = u.done ++ F r ∷ [];
    listing = listing-then u.done (F r ∷ []) ds ds' ds'' is is' is'' u.listing (listing-one (F r) c ds' ds'' is' is'' f e);
    rest = append_assoc u.done (F r ∷ []) (map F rest) ∙ ap (λ xs. u.done ++ map F xs) (sym l) ∙ u.rest;
  }

  pub under_all : (all left : List Raw.Condition) (ds ds' : List Condition) (is is' : List Item) → Under F all left ds ds' is is' → left ≡ [] → Listing (map F all) ds ds' is is'
  under_all all left ds ds' is is' u l = subst (λ ys. Listing ys ds ds' is is') (sym (append-nil u.done) ∙ ap (λ xs. u.done ++ map F xs) (sym l) ∙ u.rest) u.listing

-- the same items
pub under-in : (F : Raw.Condition → Tree.Condition) (ys zs : List Raw.Condition) (ds ds' : List Condition) {is js is' js' : List Item} → Under F ys zs ds ds' is is' → js ≡ is → js' ≡ is' → Under F ys zs ds ds' js js'
under-in F ys zs ds ds' {is = is} {js' = js'} u a b = subst (λ xs. Under F ys zs ds ds' xs js') (sym a) (subst (λ xs. Under F ys zs ds ds' is xs) (sym b) u)
