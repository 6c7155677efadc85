-- A table that grows entry by entry.
use Rattle.std.proofs.Common.{◌≡◌, ℕ, ◌+◌, ◌<◌, Bool, cond, ltb, List, [], ◌∷◌, ◌++◌, map, length, sym, refl, ap, ◌∙◌, ap₂, arith, lt-ltb}
use Rattle.std.proofs.lemmas.List.{append-nil, append_assoc, map_push, length-map, length-append}
use Rattle.resolving.specs.Making.{Added}

-- a pile with room takes one more
pub pushed : {X : Type 0} (xs ys : List X) (x : X) (r : Bool) (room : ℕ) → r ≡ ltb (length xs) room → length xs < room → ys ≡ cond r (xs ++ x ∷ []) xs → ys ≡ xs ++ x ∷ []
pushed xs ys x r room e h f = f ∙ ap (λ b. cond b (xs ++ x ∷ []) xs) (e ∙ lt-ltb (length xs) room h)

-- some entries were added, and these are left to add
pub record Adding {X Y : Type 0} (F : X → Y) (ys : List Y) (xs xs' : List X) (left : List Y) : Type 0 where
  pub more : List X
  pub grown : xs' ≡ xs ++ more
  pub stand : map F more ++ left ≡ ys

module _ {X Y : Type 0} (F : X → Y) where
  pub begun : (ys : List Y) (xs : List X) → Adding F ys xs xs ys
  begun ys xs = record { more = []; grown = sym (append-nil xs); stand = refl }

  pub turn : (ys zs : List Y) (xs xs' xs'' : List X) (x : X) (y : Y) (left : List Y) → Adding F ys xs xs' zs → zs ≡ y ∷ left → F x ≡ y → xs'' ≡ xs' ++ x ∷ [] → Adding F ys xs xs'' left
  turn ys zs xs xs' xs'' x y left a z f e = record {
    more = a.more ++ x ∷ [];
    grown = e ∙ ap (λ l. l ++ x ∷ []) a.grown ∙ append_assoc xs a.more (x ∷ []);
    stand = ap (λ l. l ++ left) (map_push F a.more x) ∙ append_assoc (map F a.more) (F x ∷ []) left ∙ ap (λ v. map F a.more ++ v ∷ left) f ∙ ap (λ l. map F a.more ++ l) (sym z) ∙ a.stand;
  }

  pub whole : (ys zs : List Y) (xs xs' : List X) → Adding F ys xs xs' zs → zs ≡ [] → Added F ys xs xs'
  whole ys zs xs xs' a z = record { more = a.more; grown = a.grown; stand = sym (append-nil (map F a.more)) ∙ ap (λ l. map F a.more ++ l) (sym z) ∙ a.stand }

  -- how many there are then
  pub fits : (ys zs : List Y) (xs xs' : List X) → Adding F ys xs xs' zs → length xs' + length zs ≡ length xs + length ys
  fits ys zs xs xs' a =
      let e = ap length a.grown ∙ length-append xs a.more in
      let k = ap length (sym a.stand) ∙ length-append (map F a.more) zs in
      let m = length-map a.more F in omega arith

  pub size : (ys : List Y) (xs xs' : List X) → Added F ys xs xs' → length xs' ≡ length xs + length ys
  size ys xs xs' a =
      let e = ap length a.grown ∙ length-append xs a.more in
      let k = ap length (sym a.stand) in
      let m = length-map a.more F in omega arith

  -- one entry, and then others
  pub onto : (y : Y) (ys zs : List Y) (xs xs' xs'' : List X) (x : X) → F x ≡ y → xs' ≡ xs ++ x ∷ [] → Added F ys xs' xs'' → zs ≡ y ∷ ys → Added F zs xs xs''
  onto y ys zs xs xs' xs'' x f e a z = record {
    more = x ∷ a.more;
    grown = a.grown ∙ ap (λ l. l ++ a.more) e ∙ append_assoc xs (x ∷ []) a.more;
    stand = ap₂ ◌∷◌ f a.stand ∙ sym z;
  }
