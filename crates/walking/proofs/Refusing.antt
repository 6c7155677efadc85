-- What was refused on the way refuses the whole.
use Rattle.std.proofs.Common.{◌≡◌, ℕ, ◌++◌, Some, IsErrAnd, Result, sym, subst}
use Rattle.language.specs.declared.refusal.Refusal.{Refusal}
use Rattle.language.specs.declared.term.Term.{Term}
use Rattle.language.specs.Walking.{Found, Owing, Got, Gots, first_fault}
use Rattle.pile.specs.declared.Pile.{Pile}
use Rattle.records.specs.declared.node.Node.{Node}
use Rattle.walking.specs.declared.walker.Walker.{Walker}
use Rattle.walking.specs.Stepping.{Finds, Touched}
use Rattle.walking.specs.Inferring.{Inferred, Paired, Given, Checked}
use Rattle.walking.proofs.Knowings.{refused}

module _ (e : Refusal) where
  pub finds-not : (r : Result Term Refusal) (f : Found) (w v : Walker) → IsErrAnd r (λ x. x ≡ e) → first_fault f.notes ≡ Some e → Finds r f w v
  finds-not r f w v i n = subst (λ (r : Result Term Refusal). Finds r f w v) (sym (refused r e i)) n

  pub touched-not : (r : Result (Unit {0}) Refusal) (at : ℕ) (node : Node) (o : Owing) (w v : Walker) → IsErrAnd r (λ x. x ≡ e) → first_fault o.notes ≡ Some e → Touched r at node o w v
  touched-not r at node o w v i n = subst (λ (r : Result (Unit {0}) Refusal). Touched r at node o w v) (sym (refused r e i)) n

  pub inferred-not : (r : Result Term Refusal) (g : Got) (lo at : ℕ) (w v : Walker) → IsErrAnd r (λ x. x ≡ e) → first_fault g.notes ≡ Some e → Inferred r g lo at w v
  inferred-not r g lo at w v i n = subst (λ (r : Result Term Refusal). Inferred r g lo at w v) (sym (refused r e i)) n

  pub paired-not : (r : Result (Term × Term) Refusal) (g h : Got) (lo a b : ℕ) (w v : Walker) → IsErrAnd r (λ x. x ≡ e) → first_fault (g.notes ++ h.notes) ≡ Some e → Paired r g h lo a b w v
  paired-not r g h lo a b w v i n = subst (λ (r : Result (Term × Term) Refusal). Paired r g h lo a b w v) (sym (refused r e i)) n

  pub given-not : (r : Result (Unit {0}) Refusal) (g : Gots) (lo at : ℕ) (p q : Pile Term) (w v : Walker) → IsErrAnd r (λ x. x ≡ e) → first_fault g.notes ≡ Some e → Given r g lo at p q w v
  given-not r g lo at p q w v i n = subst (λ (r : Result (Unit {0}) Refusal). Given r g lo at p q w v) (sym (refused r e i)) n

  pub checked-not : (r : Result (Unit {0}) Refusal) (g : Got) (lo at : ℕ) (w v : Walker) → IsErrAnd r (λ x. x ≡ e) → first_fault g.notes ≡ Some e → Checked r g lo at w v
  checked-not r g lo at w v i n = subst (λ (r : Result (Unit {0}) Refusal). Checked r g lo at w v) (sym (refused r e i)) n
