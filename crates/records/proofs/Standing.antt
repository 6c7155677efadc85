-- What stands still stands when tables grow, and is what the tables are read as.
use Rattle.std.proofs.Common.{◌≡◌, ℕ, zero, suc, ◌<◌, ◌≤◌, cond, List, [], ◌∷◌, ◌++◌, map, length, Some, None, sym, refl, ap, ◌∙◌, subst, ap₂, arith, lt-ltb}
use Rattle.std.specs.List.{AllByRecursion, slice_get}
use Rattle.std.proofs.lemmas.List.{append-nil, append_assoc}
use Rattle.std.proofs.ByRecursion.{All-weaker}
use Rattle.language.specs.Tree as Tree
use Rattle.language.specs.Tree.{Expr, Args}
use Rattle.records.specs.declared.node.Node.{Node}
use Rattle.records.specs.declared.condition.Condition.{Condition}
use Rattle.records.specs.declared.condition.Item.{Item}
use Rattle.records.specs.Tables.{Tables, stretch, item_of, side_in, condition_in, conditions_in}
use Rattle.records.specs.Trees.{Part, grown, node_in, part_in, reader_of, expr_in, args_in}
use Rattle.records.specs.Standing.{SidesIn, Listed, Stands, num, name, calc, read, call, bind, test, put, claim, ArgsStand, end, value, lent, Grows}
use Rattle.records.proofs.Stretches.{stays}
use Rattle.records.proofs.Parts.{step-at}

pub nth-front : {X : Type 0} (xs ys : List X) (i : ℕ) (x : X) → slice_get xs i ≡ Some x → slice_get (xs ++ ys) i ≡ Some x
nth-front [] ys i x e = cc
nth-front (y ∷ xs) ys zero x e = e
nth-front (y ∷ xs) ys (suc i) x e = nth-front xs ys i x e

pub nth_end : {X : Type 0} (xs : List X) (x : X) → slice_get (xs ++ x ∷ []) (length xs) ≡ Some x
nth_end [] x = refl
nth_end (y ∷ xs) x = nth_end xs x

abbrev pub More : {X : Type 0} → List X → List X → Type 0
More {X} xs ys = (more : List X) × (ys ≡ xs ++ more)

pub more-more : {X : Type 0} (xs ys zs : List X) → More xs ys → More ys zs → More xs zs
more-more xs ys zs a b = (a.0 ++ b.0, b.1 ∙ ap (λ l. l ++ b.0) a.1 ∙ append_assoc xs a.0 b.0)

pub same_tables : (t : Tables) → Grows t t
same_tables t = record { nodes = ([], sym (append-nil t.nodes)); conditions = ([], sym (append-nil t.conditions)); items = ([], sym (append-nil t.items)) }

pub then_grows : (s t u : Tables) → Grows s t → Grows t u → Grows s u
then_grows s t u a b = record {
  nodes = more-more s.nodes t.nodes u.nodes a.nodes b.nodes;
  conditions = more-more s.conditions t.conditions u.conditions a.conditions b.conditions;
  items = more-more s.items t.items u.items a.items b.items;
}

-- a condition whose sides end in their table stays, and so do conditions
side-stays : (items more : List Item) (from to : ℕ) → to ≤ length items → side_in (items ++ more) from to ≡ side_in items from to
unfolding side_in
side-stays items more from to k = ap (map item_of) (stays items more from to k)

condition-stays : (items more : List Item) (c : Condition) → SidesIn (length items) c → condition_in (items ++ more) c ≡ condition_in items c
condition-stays items more c h =
    ap₂ (λ l r. record { place = c.place; left = l; comparison = c.comparison; right = r }) (side-stays items more c.left.from c.left.to h.left) (side-stays items more c.right.from c.right.to h.right)

pub conditions-stay : (items more : List Item) (cs : List Condition) → AllByRecursion (SidesIn (length items)) cs → map (condition_in (items ++ more)) cs ≡ map (condition_in items) cs
conditions-stay items more [] h = refl
conditions-stay items more (c ∷ cs) h = ap₂ ◌∷◌ (condition-stays items more c h.0) (conditions-stay items more cs h.1)

pub longer : {X : Type 0} (xs ys : List X) → length xs ≤ length (xs ++ ys)
longer [] ys = omega arith
longer (x ∷ xs) ys = let h = longer xs ys in omega arith

pub sides-in : (m n : ℕ) → m ≤ n → (cs : List Condition) → AllByRecursion (SidesIn m) cs → AllByRecursion (SidesIn n) cs
sides-in m n h cs a = All-weaker (SidesIn m) (SidesIn n) (λ c k. record { joined = k.joined; left = omega (arith, k.left); right = omega (arith, k.right) }) cs a

pub listed-on : (s t : Tables) (from to : ℕ) (cs : List Tree.Condition) → Grows s t → Listed s from to cs → Listed t from to cs
unfolding conditions_in
listed-on s t from to cs g l =
    let is = g.items.0 in let ds = g.conditions.0 in
    let si : s.items ++ is ≡ t.items = sym g.items.1 in
    let sc : s.conditions ++ ds ≡ t.conditions = sym g.conditions.1 in
    let st : stretch t.conditions from to ≡ stretch s.conditions from to = ap (λ xs. stretch xs from to) (sym sc) ∙ stays s.conditions ds from to l.within in
    record {
      within = omega (arith, l.within, longer s.conditions ds, ap length sc);
      sides = subst (λ xs. AllByRecursion (SidesIn (length t.items)) xs) (sym st) (sides-in (length s.items) (length t.items) (omega (arith, longer s.items is, ap length si)) _ l.sides);
      reads = ap (map (condition_in t.items)) st ∙ ap (λ xs. map (condition_in xs) (stretch s.conditions from to)) (sym si) ∙ conditions-stay s.items is _ l.sides ∙ l.reads;
    }

at_on : (s t : Tables) (at : ℕ) (n : Node) → Grows s t → slice_get s.nodes at ≡ Some n → slice_get t.nodes at ≡ Some n
at_on s t at n g e = ap (λ xs. slice_get xs at) g.nodes.1 ∙ nth-front s.nodes g.nodes.0 at n e

mutual
  pub stands_on : (s t : Tables) (lo at : ℕ) (e : Expr) → Grows s t → Stands s lo at e → Stands t lo at e
  stands_on s t lo at e g (num h l) = num (at_on s t at _ g h) l
  stands_on s t lo at e g (name h l) = name (at_on s t at _ g h) l
  stands_on s t lo at e g (calc h a b x y) = calc (at_on s t at _ g h) a b (stands_on s t _ _ _ g x) (stands_on s t _ _ _ g y)
  stands_on s t lo at e g (read h a x) = read (at_on s t at _ g h) a (stands_on s t _ _ _ g x)
  stands_on s t lo at e g (call h a x) = call (at_on s t at _ g h) a (args-on s t _ _ _ g x)
  stands_on s t lo at e g (bind h a b x y) = bind (at_on s t at _ g h) a b (stands_on s t _ _ _ g x) (stands_on s t _ _ _ g y)
  stands_on s t lo at e g (test h a b c d x y u v) = test (at_on s t at _ g h) a b c d (stands_on s t _ _ _ g x) (stands_on s t _ _ _ g y) (stands_on s t _ _ _ g u) (stands_on s t _ _ _ g v)
  stands_on s t lo at e g (put h a b c x y u) = put (at_on s t at _ g h) a b c (stands_on s t _ _ _ g x) (stands_on s t _ _ _ g y) (stands_on s t _ _ _ g u)
  stands_on s t lo at e g (claim h a x l) = claim (at_on s t at _ g h) a (stands_on s t _ _ _ g x) (listed-on s t _ _ _ g l)

  pub args-on : (s t : Tables) (lo at : ℕ) (xs : Args) → Grows s t → ArgsStand s lo at xs → ArgsStand t lo at xs
  args-on s t lo at xs g (end h l) = end (at_on s t at _ g h) l
  args-on s t lo at xs g (value h a b x y) = value (at_on s t at _ g h) a b (args-on s t _ _ _ g x) (stands_on s t _ _ _ g y)
  args-on s t lo at xs g (lent h b y) = lent (at_on s t at _ g h) b (args-on s t _ _ _ g y)

-- the lower end is no higher than the position
mutual
  pub low_end : (t : Tables) (lo at : ℕ) (e : Expr) → Stands t lo at e → lo ≤ at
  low_end t lo at e (num h l) = l
  low_end t lo at e (name h l) = l
  low_end t lo at e (calc h a b x y) = let l = low_end t _ _ _ x in omega arith
  low_end t lo at e (read h a x) = let l = low_end t _ _ _ x in omega arith
  low_end t lo at e (call h a x) = let l = args-low-end t _ _ _ x in omega arith
  low_end t lo at e (bind h a b x y) = let l = low_end t _ _ _ x in omega arith
  low_end t lo at e (test h a b c d x y u v) = let l = low_end t _ _ _ x in omega arith
  low_end t lo at e (put h a b c x y u) = let l = low_end t _ _ _ x in omega arith
  low_end t lo at e (claim h a x l) = let l = low_end t _ _ _ x in omega arith

  pub args-low-end : (t : Tables) (lo at : ℕ) (xs : Args) → ArgsStand t lo at xs → lo ≤ at
  args-low-end t lo at xs (end h l) = l
  args-low-end t lo at xs (value h a b x y) = let l = args-low-end t _ _ _ x in omega arith
  args-low-end t lo at xs (lent h b y) = let l = args-low-end t _ _ _ y in omega arith

-- what lies from a position on lies from any lower one on
mutual
  pub wider : (t : Tables) (l lo at : ℕ) (e : Expr) → l ≤ lo → Stands t lo at e → Stands t l at e
  wider t l lo at e k (num h m) = num h (omega arith)
  wider t l lo at e k (name h m) = name h (omega arith)
  wider t l lo at e k (calc h a b x y) = calc h a b (wider t l _ _ _ k x) y
  wider t l lo at e k (read h a x) = read h a (wider t l _ _ _ k x)
  wider t l lo at e k (call h a x) = call h a (args-wider t l _ _ _ k x)
  wider t l lo at e k (bind h a b x y) = bind h a b (wider t l _ _ _ k x) y
  wider t l lo at e k (test h a b c d x y u v) = test h a b c d (wider t l _ _ _ k x) y u v
  wider t l lo at e k (put h a b c x y u) = put h a b c (wider t l _ _ _ k x) y u
  wider t l lo at e k (claim h a x m) = claim h a (wider t l _ _ _ k x) m

  pub args-wider : (t : Tables) (l lo at : ℕ) (xs : Args) → l ≤ lo → ArgsStand t lo at xs → ArgsStand t l at xs
  args-wider t l lo at xs k (end h m) = end h (omega arith)
  args-wider t l lo at xs k (value h a b x y) = value h a b (args-wider t l _ _ _ k x) y
  args-wider t l lo at xs k (lent h b y) = lent h b (args-wider t l _ _ _ k y)

-- what stands is what is read
node-below : (t : Tables) (top at : ℕ) (n : Node) → at < top → slice_get t.nodes at ≡ Some n → Some n ≡ node_in top t.nodes at
node-below t top at n h e = sym (ap (λ b. cond b (slice_get t.nodes at) None) (lt-ltb at top h) ∙ e)

expr-from : (t : Tables) (top at : ℕ) (n : Node) → at < top → slice_get t.nodes at ≡ Some n → expr_in t top at ≡ (grown (reader_of t) (part_in (reader_of t) at t.nodes) (Some n)).expr
expr-from t top at n h e = ap (λ (p : Part). p.expr) (step-at (reader_of t) top t.nodes at (Some n) (node-below t top at n h e))

args-from : (t : Tables) (top at : ℕ) (n : Node) → at < top → slice_get t.nodes at ≡ Some n → args_in t top at ≡ (grown (reader_of t) (part_in (reader_of t) at t.nodes) (Some n)).args
args-from t top at n h e = ap (λ (p : Part). p.args) (step-at (reader_of t) top t.nodes at (Some n) (node-below t top at n h e))

mutual
  pub reads-expr : (t : Tables) (top lo at : ℕ) (e : Expr) → at < top → Stands t lo at e → expr_in t top at ≡ e
  reads-expr t top lo at _ h (num e l) = expr-from t top at _ h e
  reads-expr t top lo at _ h (name e l) = expr-from t top at _ h e
  reads-expr t top lo at _ h (calc {p = p} {a = i} {b = j} {o = o} {x = u} {y = v} e a b x y) = expr-from t top at _ h e ∙ ap₂ (Tree.calc p o) (reads-expr t at _ i u a x) (reads-expr t at _ j v b y)
  reads-expr t top lo at _ h (read {a = i} {s = s} {x = u} e a x) = expr-from t top at _ h e ∙ ap (Tree.read s) (reads-expr t at _ i u a x)
  reads-expr t top lo at _ h (call {p = p} {f = f} {a = i} {xs = u} e a x) = expr-from t top at _ h e ∙ ap (Tree.call p f) (reads-args t at _ i u a x)
  reads-expr t top lo at _ h (bind {p = p} {a = i} {b = j} {x = u} {y = v} e a b x y) = expr-from t top at _ h e ∙ ap₂ (Tree.bind p) (reads-expr t at _ i u a x) (reads-expr t at _ j v b y)
  reads-expr t top lo at _ h (test {p = p} {a = i} {b = j} {d = k} {e = l} {c = c} {x = u} {y = v} {u = w} {v = z} e a b d f x y g m) =
      expr-from t top at _ h e ∙ ap₂ (λ m n. Tree.test p c m n (expr_in t at k) (expr_in t at l)) (reads-expr t at _ i u a x) (reads-expr t at _ j v b y) ∙ ap₂ (Tree.test p c u v) (reads-expr t at _ k w d g) (reads-expr t at _ l z f m)
  reads-expr t top lo at _ h (put {p = p} {a = i} {b = j} {e = k} {s = s} {x = u} {y = v} {u = w} e a b c x y g) =
      expr-from t top at _ h e ∙ ap₂ (λ m n. Tree.put p s m n (expr_in t at k)) (reads-expr t at _ i u a x) (reads-expr t at _ j v b y) ∙ ap (Tree.put p s u v) (reads-expr t at _ k w c g)
  reads-expr t top lo at _ h (claim {p = p} {a = i} {x = u} e a x l) = expr-from t top at _ h e ∙ ap₂ (Tree.claim p) (reads-expr t at _ i u a x) l.reads

  pub reads-args : (t : Tables) (top lo at : ℕ) (xs : Args) → at < top → ArgsStand t lo at xs → args_in t top at ≡ xs
  reads-args t top lo at _ h (end e l) = args-from t top at _ h e
  reads-args t top lo at _ h (value {a = i} {b = j} {x = u} {xs = v} e a b y x) = args-from t top at _ h e ∙ ap₂ Tree.value (reads-expr t at _ i u a x) (reads-args t at _ j v b y)
  reads-args t top lo at _ h (lent {l = l} {b = j} {xs = v} e b y) = args-from t top at _ h e ∙ ap (Tree.lent l) (reads-args t at _ j v b y)
