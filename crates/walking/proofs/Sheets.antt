-- Rules that are walked one after another, with others still to come.
use Rattle.std.proofs.Common.{◌≡◌, ℕ, suc, ◌+◌, ◌<◌, ◌≤◌, List, [], ◌∷◌, ◌++◌, length, get_or, drop, Some, None, Ok, Err, IsErrAnd, Result, sym, refl, ap, ◌∙◌, subst, inl, inr, arith}
use Rattle.std.proofs.lemmas.List.{append-nil, append_assoc, length-append, drop_more, drop_all}
use Rattle.std.proofs.lemmas.Option.{none-some, slice_get_within, get_or_from_slice_get, slice_get-get_or}
use Rattle.std.specs.List.{AllByRecursion, slice_get}
use Rattle.language.specs.declared.refusal.Refusal.{Refusal}
use Rattle.language.specs.Tree.{Rule}
use Rattle.language.specs.Walking.{Note, Got, Obligation, walk_rules, walk_body, start_known, obligations_of, first_fault}
use Rattle.language.proofs.Laws.{fault-first, fault-next}
use Rattle.records.specs.declared.entry.Entry.{Entry}
use Rattle.records.specs.declared.entry.Param.{Param}
use Rattle.records.specs.declared.laid.Laid.{Laid}
use Rattle.records.specs.Columns.{Columns, no_entry, tables_by}
use Rattle.records.specs.Laying.{columns_of, records_of, owed_of}
use Rattle.records.specs.Owing.{OwesAll}
use Rattle.records.specs.Rules.{RuleStands, RulesStand}
use Rattle.records.proofs.Framing.{listed_framed, rule_framed, rules_framed_all, stands_within}
use Rattle.records.proofs.Standing.{low_end}
use Rattle.walking.specs.Bodies.{BodyWalked, RuleWalked}
use Rattle.walking.specs.Inferring.{Heads, HeadsIn}
use Rattle.walking.specs.Walked.{Ruled, WalkedWell, Walked, with_bodies}
use Rattle.walking.proofs.Heads.{heads_by}
use Rattle.walking.proofs.Knowings.{refused}
use Rattle.walking.proofs.Owings.{owed-append}

-- the rules that are left are walked from these tables on: no fault is noted, their bodies stand numbered, and their obligations join those that stood
pub record From (R : List Rule) (ps : List Param) (lo : ℕ) (es : List Entry) (left : List Rule) (u v : Laid) : Type 0 where
  pub faultless : first_fault (walk_rules R (owed_of u) left).notes ≡ None
  pub stand : RulesStand (tables_by (columns_of v)) ps lo es (with_bodies left (walk_rules R (owed_of u) left).bodies)
  pub nodes : (k : ℕ) → k < lo → slice_get (columns_of v).nodes.entries k ≡ slice_get (columns_of u).nodes.entries k
  pub rest : columns_of v ≡ record (columns_of u) { nodes = (columns_of v).nodes }
  pub number : owed_of v ≡ owed_of u + length (obligations_of (walk_rules R (owed_of u) left).notes)
  pub owes : (os : List Obligation) → length os ≡ owed_of u → OwesAll (records_of u) os → OwesAll (records_of v) (os ++ obligations_of (walk_rules R (owed_of u) left).notes)

abbrev pub FromAs : Result (Unit {0}) Refusal → List Rule → List Param → ℕ → List Entry → List Rule → Laid → Laid → Type 0
FromAs (Ok z) R ps lo es left u v = From R ps lo es left u v
FromAs (Err q) R ps lo es left u v = first_fault (walk_rules R (owed_of u) left).notes ≡ Some q

module _ (R : List Rule) (ps : List Param) where
  from_none : (lo : ℕ) (u : Laid) → From R ps lo [] [] u u
  unfolding walk_rules with_bodies first_fault obligations_of
  from_none lo u = record { faultless = refl; stand = tt; nodes = λ k h. refl; rest = refl; number = omega arith; owes = λ os n o. subst (λ xs. OwesAll (records_of u) xs) (sym (append-nil os)) o }

  notes-then : (n : ℕ) (r : Rule) (rs : List Rule) → (walk_rules R n (r ∷ rs)).notes ≡ ((start_known r).notes ++ (walk_body R n r).notes) ++ (walk_rules R (walk_body R n r).stand.count rs).notes
  unfolding walk_rules
  notes-then n r rs = refl

  bodies-then : (n : ℕ) (r : Rule) (rs : List Rule) → with_bodies (r ∷ rs) (walk_rules R n (r ∷ rs)).bodies ≡ record { place = r.place; params = r.params; needs = r.needs; gives = r.gives; body = (walk_body R n r).tree } ∷ with_bodies rs (walk_rules R (walk_body R n r).stand.count rs).bodies
  unfolding walk_rules with_bodies
  bodies-then n r rs = refl

  module _ (lo : ℕ) (e : Entry) (es : List Entry) (r : Rule) (rs : List Rule) (u v : Laid) (x : RuleStands (tables_by (columns_of u)) ps lo e r) (b : BodyWalked (start_known r) (walk_body R (owed_of u) r) lo e.body u v) where
    g : Got
    g = walk_body R (owed_of u) r

    first : List Note
    first = (start_known r).notes ++ (walk_body R (owed_of u) r).notes

    notes-are : (walk_rules R (owed_of u) (r ∷ rs)).notes ≡ first ++ (walk_rules R (owed_of v) rs).notes
    unfolding first
    notes-are = notes-then (owed_of u) r rs ∙ ap (λ n. ((start_known r).notes ++ (walk_body R (owed_of u) r).notes) ++ (walk_rules R n rs).notes) (sym b.count)

    numbered : Rule
    numbered = record { place = r.place; params = r.params; needs = r.needs; gives = r.gives; body = (walk_body R (owed_of u) r).tree }

    bodies-are : with_bodies (r ∷ rs) (walk_rules R (owed_of u) (r ∷ rs)).bodies ≡ numbered ∷ with_bodies rs (walk_rules R (owed_of v) rs).bodies
    unfolding numbered
    bodies-are = bodies-then (owed_of u) r rs ∙ ap (λ n. record { place = r.place; params = r.params; needs = r.needs; gives = r.gives; body = (walk_body R (owed_of u) r).tree } ∷ with_bodies rs (walk_rules R n rs).bodies) (sym b.count)

    stands : RuleStands (tables_by (columns_of v)) ps lo e numbered
    unfolding numbered
    stands =
        let s = tables_by (columns_of u) in let t = tables_by (columns_of v) in
        let ds = ap (λ (c : Columns). c.conditions.entries) b.columns.rest in let is = ap (λ (c : Columns). c.items.entries) b.columns.rest in record {
          place = x.place;
          within = x.within;
          params = x.params;
          needs = listed_framed s t ds is e.needs.from e.needs.to r.needs x.needs;
          gives = listed_framed s t ds is e.gives.from e.gives.to r.gives x.gives;
          below = stands_within t lo e.body (walk_body R (owed_of u) r).tree b.tree;
          body = b.tree;
        }

    from_then : (w : Laid) → From R ps (suc e.body) es rs v w → From R ps lo (e ∷ es) (r ∷ rs) u w
    unfolding first
    from_then w f =
        let l = low_end (tables_by (columns_of u)) lo e.body r.body x.body in
        let ds = ap (λ (c : Columns). c.conditions.entries) f.rest in let is = ap (λ (c : Columns). c.items.entries) f.rest in
        let o = ap obligations_of notes-are ∙ owed-append first (walk_rules R (owed_of v) rs).notes in record {
          faultless = ap first_fault notes-are ∙ fault-next first _ b.faultless ∙ f.faultless;
          stand = subst (λ (qs : List Rule). RulesStand (tables_by (columns_of w)) ps lo (e ∷ es) qs) (sym bodies-are)
              (rule_framed (tables_by (columns_of v)) (tables_by (columns_of w)) ds is ps lo e numbered (λ k h m. f.nodes k (omega arith)) stands, f.stand);
          nodes = λ k h. f.nodes k (omega arith) ∙ b.columns.nodes k (inl h);
          rest = f.rest ∙ ap (λ (c : Columns). record c { nodes = (columns_of w).nodes }) b.columns.rest;
          number = omega (arith, f.number, b.number, ap length o, length-append (obligations_of first) (obligations_of (walk_rules R (owed_of v) rs).notes));
          owes = λ os n h. subst (λ ps. OwesAll (records_of w) ps) (append_assoc os (obligations_of first) (obligations_of (walk_rules R (owed_of v) rs).notes) ∙ sym (ap (λ qs. os ++ qs) o))
              (f.owes (os ++ obligations_of first) (omega (arith, n, b.number, length-append os (obligations_of first))) (b.owes os n h));
        }

    pub from_as : (result : Result (Unit {0}) Refusal) (w : Laid) → FromAs result R ps (suc e.body) es rs v w → FromAs result R ps lo (e ∷ es) (r ∷ rs) u w
    unfolding first
    from_as (Ok z) w f = from_then w f
    from_as (Err q) w f = ap first_fault notes-are ∙ fault-next first _ b.faultless ∙ f

  from_break : (lo : ℕ) (e : Entry) (es : List Entry) (r : Rule) (rs : List Rule) (u w : Laid) (q : Refusal) → first_fault ((start_known r).notes ++ (walk_body R (owed_of u) r).notes) ≡ Some q → FromAs (Err q) R ps lo (e ∷ es) (r ∷ rs) u w
  from_break lo e es r rs u w q f = ap first_fault (notes-then (owed_of u) r rs) ∙ fault-first _ _ q f

-- the rules of these entries are left, and walking them walks all
pub record Along (R : List Rule) (ps : List Param) (es : List Entry) (t u : Laid) : Type 0 where
  pub low : ℕ
  pub left : List Rule
  pub stand : RulesStand (tables_by (columns_of u)) ps low es left
  pub heads : HeadsIn (columns_of u) R
  pub size : length (columns_of u).nodes.entries ≤ 16384
  pub rest : columns_of u ≡ record (columns_of t) { nodes = (columns_of u).nodes }
  pub goes : (result : Result (Unit {0}) Refusal) (v : Laid) → FromAs result R ps low es left u v → FromAs result R ps 0 (columns_of t).entries.entries R t v

-- what stands in the tables says what a call asks for
heads_from : (c : Columns) (lo : ℕ) (es : List Entry) (rs : List Rule) → RulesStand (tables_by c) c.params.entries lo es rs → AllByRecursion (λ (r : Rule). length r.params ≤ 12) rs → Heads c es rs
heads_from c lo [] [] x f = tt
heads_from c lo [] (r ∷ rs) x f = x
heads_from c lo (e ∷ es) [] x f = x
heads_from c lo (e ∷ es) (r ∷ rs) x f = (record { params = x.0.params; few = f.0; needs = x.0.needs.reads; gives = x.0.gives.reads }, heads_from c (suc e.body) es rs x.1 f.1)

pub along_all : (R : List Rule) (t : Laid) → Ruled (columns_of t) R → length (columns_of t).nodes.entries ≤ 16384 → Along R (columns_of t).params.entries (columns_of t).entries.entries t t
along_all R t x n =
    let c = columns_of t in record {
      low = 0;
      left = R;
      stand = x.stand;
      heads = heads_from c 0 c.entries.entries R x.stand x.few;
      size = n;
      rest = refl;
      goes = λ result v f. f;
    }

module _ (R : List Rule) (e : Entry) (es : List Entry) (t u v : Laid) where
  pub along_turn : Along R (columns_of t).params.entries (e ∷ es) t u → RuleWalked (Ok tt) e u v → Along R (columns_of t).params.entries es t v
  along_turn a w = go a.left a.stand a.goes
    where
      ps : List Param
      ps = (columns_of t).params.entries

      go : (left : List Rule) → RulesStand (tables_by (columns_of u)) (columns_of t).params.entries a.low (e ∷ es) left → ((result : Result (Unit {0}) Refusal) (v : Laid) → FromAs result R (columns_of t).params.entries a.low (e ∷ es) left u v → FromAs result R (columns_of t).params.entries 0 (columns_of t).entries.entries R t v) → Along R (columns_of t).params.entries es t v
      go [] s f = absurd s
      go (r ∷ rs) s f =
          let p = ap (λ (c : Columns). c.params.entries) a.rest in
          let b = w R a.low r a.heads (subst (λ (ps : List Param). RuleStands (tables_by (columns_of u)) ps a.low e r) (sym p) s.0) a.size in
          let q = b.columns.rest in record {
            low = suc e.body;
            left = rs;
            stand = rules_framed_all (tables_by (columns_of u)) (tables_by (columns_of v)) (ap (λ (c : Columns). c.conditions.entries) q) (ap (λ (c : Columns). c.items.entries) q) (columns_of t).params.entries (suc e.body) es rs (λ k h m. b.columns.nodes k (inr h)) s.1;
            heads = subst (λ (c : Columns). HeadsIn c R) (sym q) (heads_by (columns_of u) (columns_of v) (columns_of u).entries.entries R a.heads);
            size = omega (arith, a.size, b.columns.count);
            rest = q ∙ ap (λ (c : Columns). record c { nodes = (columns_of v).nodes }) a.rest;
            goes = λ result z h. f result z (from_as R (columns_of t).params.entries a.low e es r rs u v s.0 b result z h);
          }

  pub along_break : (q : Refusal) → owed_of t ≡ 0 → Along R (columns_of t).params.entries (e ∷ es) t u → RuleWalked (Err q) e u v → first_fault (walk_rules R 0 R).notes ≡ Some q
  along_break q z a w = subst (λ n. first_fault (walk_rules R n R).notes ≡ Some q) z (go a.left a.stand a.goes)
    where
      go : (left : List Rule) → RulesStand (tables_by (columns_of u)) (columns_of t).params.entries a.low (e ∷ es) left → ((result : Result (Unit {0}) Refusal) (v : Laid) → FromAs result R (columns_of t).params.entries a.low (e ∷ es) left u v → FromAs result R (columns_of t).params.entries 0 (columns_of t).entries.entries R t v)
          → first_fault (walk_rules R (owed_of t) R).notes ≡ Some q
      go [] s f = absurd s
      go (r ∷ rs) s f =
          let p = ap (λ (c : Columns). c.params.entries) a.rest in
          let b = w R a.low r a.heads (subst (λ (ps : List Param). RuleStands (tables_by (columns_of u)) ps a.low e r) (sym p) s.0) a.size in
          f (Err q) u (from_break R (columns_of t).params.entries a.low e es r rs u u q b)

-- the entry at a position is the next; and there is one
module _ (R : List Rule) (k : ℕ) (t u : Laid) (a : Along R (columns_of t).params.entries (drop k (columns_of t).entries.entries) t u) where
  same-entry : slice_get (columns_of u).entries.entries k ≡ slice_get (columns_of t).entries.entries k
  same-entry = ap (λ (c : Columns). slice_get c.entries.entries k) a.rest

  pub along_here : (e : Entry) → Some e ≡ slice_get (columns_of u).entries.entries k → Along R (columns_of t).params.entries (e ∷ drop (k + 1) (columns_of t).entries.entries) t u
  along_here e h =
      let es = (columns_of t).entries.entries in
      let g : slice_get es k ≡ Some e = sym (h ∙ same-entry) in
      subst (λ (es : List Entry). Along R (columns_of t).params.entries es t u) (drop_more es k e (slice_get_within es k e g) ∙ ap (λ x. x ∷ drop (k + 1) es) (get_or_from_slice_get es k e e g)) a

  pub not_past : None ≡ slice_get (columns_of u).entries.entries k → k < length (columns_of t).entries.entries → ⊥
  not_past h l = none-some (get_or (columns_of t).entries.entries k no_entry) (h ∙ same-entry ∙ slice_get-get_or (columns_of t).entries.entries k no_entry l)

  pub along_last : length (columns_of t).entries.entries ≤ k → Along R (columns_of t).params.entries [] t u
  along_last h = subst (λ (es : List Entry). Along R (columns_of t).params.entries es t u) (drop_all k (columns_of t).entries.entries h) a

-- no entry is left
pub along_end : (R : List Rule) (t u : Laid) → Along R (columns_of t).params.entries [] t u → From R (columns_of t).params.entries 0 (columns_of t).entries.entries R t u
along_end R t u a = go a.left a.stand a.goes
  where
    go : (left : List Rule) → RulesStand (tables_by (columns_of u)) (columns_of t).params.entries a.low [] left → ((result : Result (Unit {0}) Refusal) (v : Laid) → FromAs result R (columns_of t).params.entries a.low [] left u v → FromAs result R (columns_of t).params.entries 0 (columns_of t).entries.entries R t v)
        → From R (columns_of t).params.entries 0 (columns_of t).entries.entries R t u
    go [] s f = f (Ok tt) u (from_none R (columns_of t).params.entries a.low u)
    go (r ∷ rs) s f = absurd s

pub walked_well : (R : List Rule) (t u : Laid) → owed_of t ≡ 0 → From R (columns_of t).params.entries 0 (columns_of t).entries.entries R t u → WalkedWell R t u
walked_well R t u z f =
    let c = columns_of u in
    let p = ap (λ (c : Columns). c.params.entries) f.rest in let e = ap (λ (c : Columns). c.entries) f.rest in record {
      faultless = subst (λ n. first_fault (walk_rules R n R).notes ≡ None) z f.faultless;
      stand = subst (λ n. RulesStand (tables_by c) c.params.entries 0 c.entries.entries (with_bodies R (walk_rules R n R).bodies)) z
          (subst (λ (ps : List Param). RulesStand (tables_by c) ps 0 c.entries.entries (with_bodies R (walk_rules R (owed_of t) R).bodies)) (sym p)
          (subst (λ (es : List Entry). RulesStand (tables_by c) (columns_of t).params.entries 0 es (with_bodies R (walk_rules R (owed_of t) R).bodies)) (ap (λ x. x.entries) (sym e)) f.stand));
      count = subst (λ n. owed_of u ≡ length (obligations_of (walk_rules R n R).notes)) z (omega (arith, f.number, z));
      owes = subst (λ n. OwesAll (records_of u) (obligations_of (walk_rules R n R).notes)) z (f.owes [] (sym z) tt);
      entries = e;
      lender = ap (λ (c : Columns). c.lender) f.rest;
    }

-- a fault on the way refuses the whole
pub walked_not : (result : Result (Unit {0}) Refusal) (q : Refusal) (R : List Rule) (t u : Laid) → IsErrAnd result (λ f. f ≡ q) → first_fault (walk_rules R 0 R).notes ≡ Some q → Walked result R t u
walked_not result q R t u e f = subst (λ (r : Result (Unit {0}) Refusal). Walked r R t u) (sym (refused result q e)) f
