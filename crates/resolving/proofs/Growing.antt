-- How steps that grow the tables come together.
use Rattle.std.proofs.Common.{◌≡◌, ℕ, suc, ◌+◌, ◌<◌, ◌≤◌, List, [], ◌∷◌, map, length, Some, sum_by, sym, refl, ap, ◌∙◌, subst, ap₂, arith}
use Rattle.std.proofs.lemmas.List.{append-nil, length-append, length_push, length-map}
use Rattle.std.proofs.lemmas.List.Sums.{sum_by-cons, sum_by_push, sum_by-append}
use Rattle.std.specs.List.{AllByRecursion, slice_get}
use Rattle.language.specs.Tree as Tree
use Rattle.records.specs.declared.node.Node.{Node}
use Rattle.records.specs.declared.condition.Condition.{Condition}
use Rattle.records.specs.declared.condition.Item.{Item}
use Rattle.records.specs.Tables.{Tables, condition_in, conditions_in, stretch}
use Rattle.records.specs.Standing.{SidesIn, Listed, Stands, Grows}
use Rattle.records.specs.Counting.{up_to, conditions_up_to, node_up_to, nodes_up_to, listed_up_to}
use Rattle.records.proofs.Standing.{nth_end, same_tables, then_grows, listed-on, stands_on, args-on, wider, longer, sides-in}
use Rattle.records.specs.Sound.{Near}
use Rattle.std.proofs.ByRecursion.{All-append}
use Rattle.records.specs.Columns.{Columns, tables_by}
use Rattle.resolving.specs.Making.{Listing, ConditionsAlone}
use Rattle.resolving.specs.Growing.{added, Roomy, Fair, Made, ExprAt, ArgsAt}
use Rattle.resolving.proofs.Listings.{stretched}

pub nodes-longer : (s t : Tables) → Grows s t → length s.nodes ≤ length t.nodes
nodes-longer s t g = omega (arith, ap length g.nodes.1, length-append s.nodes g.nodes.0)

pub expr-on : (lo at : ℕ) (e : Tree.Expr) (s t : Tables) → Grows s t → ExprAt s lo at e → ExprAt t lo at e
expr-on lo at e s t g x = record { below = omega (arith, x.below, nodes-longer s t g); stands = stands_on s t lo at e g x.stands }

pub arguments-on : (lo at : ℕ) (es : Tree.Args) (s t : Tables) → Grows s t → ArgsAt s lo at es → ArgsAt t lo at es
arguments-on lo at es s t g x = record { below = omega (arith, x.below, nodes-longer s t g); stands = args-on s t lo at es g x.stands }

-- where the nodes of an expression are new, they lie after a part that stood before
pub expr-after : (i lo at : ℕ) (e : Tree.Expr) (s t : Tables) → Grows s t → i < lo → ExprAt s lo at e → Stands t (suc i) at e
expr-after i lo at e s t g h x = wider t (suc i) lo at e (omega arith) (stands_on s t lo at e g x.stands)

pub roomy_after : {w v u : ℕ} {c k : ℕ → ℕ} {R : Tables → Type 0} {p q : Columns} → Roomy w p → Made v c k R p q → v + u ≤ w → Roomy u q
roomy_after r m h = record {
  nodes = omega (arith, r.nodes, m.nodes, m.rooms.0);
  conditions = omega (arith, r.conditions, m.listed, m.rooms.1);
  items = omega (arith, r.items, m.items, m.rooms.2);
}

-- nothing yet
pub made_none : (p : Columns) → Made 0 (λ byte. 0) (λ byte. 0) (λ t. Unit {0}) p p
made_none p = record { grows = same_tables (tables_by p); holds = tt; fair = λ f. f; nodes = omega arith; listed = omega arith; items = omega arith; rooms = (refl, refl, refl); others = (refl, refl, refl); exprs = λ byte. omega arith; conditions = λ byte. omega arith }

pub made_as : {v w : ℕ} {c c' k k' : ℕ → ℕ} {R R' : Tables → Type 0} {p q : Columns} → Made v c k R p q → v ≤ w → ((byte : ℕ) → c byte ≡ c' byte) → ((byte : ℕ) → k byte ≡ k' byte) → (R (tables_by q) → R' (tables_by q)) → Made w c' k' R' p q
made_as m h e f r = record {
  grows = m.grows;
  holds = r m.holds;
  fair = m.fair;
  nodes = omega (arith, m.nodes);
  listed = omega (arith, m.listed);
  items = omega (arith, m.items);
  rooms = m.rooms;
  others = m.others;
  exprs = λ byte. omega (arith, m.exprs byte, e byte);
  conditions = λ byte. omega (arith, m.conditions byte, f byte);
}

-- one step after another
pub made_then : {v w : ℕ} {c c' k k' : ℕ → ℕ} {R R' : Tables → Type 0} {p q r : Columns} → Made v c k R p q → ((s t : Tables) → Grows s t → R s → R t) → Made w c' k' R' q r → Made (v + w) (λ byte. c byte + c' byte) (λ byte. k byte + k' byte) (λ t. R t × R' t) p r
made_then {p = p} {q = q} {r = r} a s b = record {
  grows = then_grows (tables_by p) (tables_by q) (tables_by r) a.grows b.grows;
  holds = (s (tables_by q) (tables_by r) b.grows a.holds, b.holds);
  fair = λ f. b.fair (a.fair f);
  nodes = omega (arith, a.nodes, b.nodes);
  listed = omega (arith, a.listed, b.listed);
  items = omega (arith, a.items, b.items);
  rooms = (b.rooms.0 ∙ a.rooms.0, b.rooms.1 ∙ a.rooms.1, b.rooms.2 ∙ a.rooms.2);
  others = (b.others.0 ∙ a.others.0, b.others.1 ∙ a.others.1, b.others.2 ∙ a.others.2);
  exprs = λ byte. omega (arith, a.exprs byte, b.exprs byte);
  conditions = λ byte. omega (arith, a.conditions byte, b.conditions byte);
}

-- a node is pushed
pub made-push : (p : Columns) (node : Node) → Made 1 (λ byte. node_up_to byte node) (λ byte. 0) (λ t. slice_get t.nodes (length p.nodes.entries) ≡ Some node) p (added p node)
unfolding nodes_up_to
made-push p node = record {
  grows = record { nodes = (node ∷ [], refl); conditions = ([], sym (append-nil p.conditions.entries)); items = ([], sym (append-nil p.items.entries)) };
  holds = nth_end p.nodes.entries node;
  fair = λ f. record { factors = f.factors; sides = f.sides };
  nodes = omega (arith, length_push p.nodes.entries node);
  listed = omega arith;
  items = omega arith;
  rooms = (refl, refl, refl);
  others = (refl, refl, refl);
  exprs = λ byte. sum_by_push (node_up_to byte) p.nodes.entries node;
  conditions = λ byte. omega arith;
}

-- a node is pushed after a step, and what it stands for holds then
pub made-node : {v w : ℕ} {c c' k k' : ℕ → ℕ} {R R' : Tables → Type 0} {p q : Columns} (last : Columns) (node : Node) → Made v c k R p q → last ≡ added q node
    → v + 1 ≤ w → ((byte : ℕ) → c byte + node_up_to byte node ≡ c' byte) → ((byte : ℕ) → k byte ≡ k' byte)
    → (R (tables_by q) → (t : Tables) → Grows (tables_by q) t → length q.nodes.entries < length t.nodes → slice_get t.nodes (length q.nodes.entries) ≡ Some node → R' t)
    → Made w c' k' R' p last
made-node {w = w} {c' = c'} {k' = k'} {R = R} {R' = R'} {p = p} {q = q} last node m e h x y f =
    let s = made-push q node in
    let z = added q node in
    subst (λ (z : Columns). Made w c' k' R' p z) (sym e) (record {
      grows = then_grows (tables_by p) (tables_by q) (tables_by z) m.grows s.grows;
      holds = f m.holds (tables_by z) s.grows (omega (arith, length_push q.nodes.entries node)) s.holds;
      fair = λ f. s.fair (m.fair f);
      nodes = omega (arith, m.nodes, s.nodes);
      listed = omega (arith, m.listed);
      items = omega (arith, m.items);
      rooms = m.rooms;
      others = m.others;
      exprs = λ byte. omega (arith, m.exprs byte, s.exprs byte, x byte);
      conditions = λ byte. omega (arith, m.conditions byte, y byte);
    })

-- conditions go into their tables
places : (byte : ℕ) (items : List Item) (cs : List Condition) → sum_by (λ (c : Condition). up_to byte c.place) cs ≡ conditions_up_to byte (map (condition_in items) cs)
unfolding conditions_up_to
places byte items [] = refl
places byte items (c ∷ cs) =
    sum_by-cons (λ (c : Condition). up_to byte c.place) c cs ∙ ap (λ n. up_to byte c.place + n) (places byte items cs)
    ∙ sym (sum_by-cons (λ (c : Tree.Condition). up_to byte c.place) (condition_in items c) (map (condition_in items) cs))

pub listed_here : (ys : List Tree.Condition) (ns : List Node) (ds ds' : List Condition) (is is' : List Item) (from to : ℕ) → Listing ys ds ds' is is' → from ≡ length ds → to ≡ length ds' → Listed (record { nodes = ns; conditions = ds'; items = is' }) from to ys
unfolding conditions_in
listed_here ys ns ds ds' is is' from to l f t =
    let e : stretch ds' from to ≡ l.more = ap₂ (stretch ds') f t ∙ ap (λ xs. stretch xs (length ds) (length xs)) l.grown ∙ stretched ds l.more in record {
      within = omega arith;
      sides = subst (λ xs. AllByRecursion (SidesIn (length is')) xs) (sym e) l.sides;
      reads = ap (map (condition_in is')) e ∙ l.stand;
    }

-- the sides of the new conditions lie among the items, and so do those of the others, since items were only added
listing-fair : (ys : List Tree.Condition) (p q : Columns) → Listing ys p.conditions.entries q.conditions.entries p.items.entries q.items.entries → (Near p.items.entries → Near q.items.entries) → Fair p → Fair q
listing-fair ys p q l n f =
    let xs = l.items.0 in let m = length q.items.entries in record {
      factors = n f.factors;
      sides = subst (AllByRecursion (SidesIn m)) (sym l.grown) (All-append (SidesIn m) p.conditions.entries l.more (sides-in (length p.items.entries) m (omega (arith, ap length l.items.1, longer p.items.entries xs)) p.conditions.entries f.sides) l.sides);
    }

pub made-listed : (ys : List Tree.Condition) (w from to : ℕ) (p q : Columns) → Listing ys p.conditions.entries q.conditions.entries p.items.entries q.items.entries → from ≡ length p.conditions.entries → to ≡ length q.conditions.entries → length ys ≤ w → length q.items.entries ≤ length p.items.entries + w → ConditionsAlone p q
    → Made w (λ byte. 0) (λ byte. conditions_up_to byte ys) (λ t. Listed t from to ys) p q
unfolding listed_up_to
made-listed ys w from to p q l f t h m alone =
    let e = alone.rest in
    let n : q.nodes ≡ p.nodes = ap (λ (c : Columns). c.nodes) e in
    let ns : q.nodes.entries ≡ p.nodes.entries = ap (λ (c : Columns). c.nodes.entries) e in record {
      grows = record { nodes = ([], ns ∙ sym (append-nil p.nodes.entries)); conditions = (l.more, l.grown); items = l.items };
      holds = listed_here ys q.nodes.entries p.conditions.entries q.conditions.entries p.items.entries q.items.entries from to l f t;
      fair = listing-fair ys p q l alone.near;
      nodes = omega (arith, ap length ns);
      listed = omega (arith, ap length l.grown, length-append p.conditions.entries l.more, length-map l.more (condition_in q.items.entries), ap length l.stand);
      items = m;
      rooms = (ap (λ (c : Columns). c.nodes.room) e, alone.room, alone.items);
      others = (ap (λ (c : Columns). c.params) e, ap (λ (c : Columns). c.entries) e, ap (λ (c : Columns). c.lender) e);
      exprs = λ byte. omega (arith, ap (nodes_up_to byte) ns);
      conditions = λ byte. ap (sum_by (λ (c : Condition). up_to byte c.place)) l.grown ∙ sum_by-append (λ (c : Condition). up_to byte c.place) p.conditions.entries l.more ∙ ap (λ n. sum_by (λ (c : Condition). up_to byte c.place) p.conditions.entries + n) (places byte q.items.entries l.more ∙ ap (conditions_up_to byte) l.stand);
    }

pub listed-grows : (from to : ℕ) (cs : List Tree.Condition) (s t : Tables) → Grows s t → Listed s from to cs → Listed t from to cs
listed-grows from to cs s t g l = listed-on s t from to cs g l
