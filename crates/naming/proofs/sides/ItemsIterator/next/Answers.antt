use Rattle.std.proofs.Common.{◌∷◌, length, is_some, unwrap_or, sym, refl, ap, ◌∙◌, ap₂, arith}
use Rattle.letters.specs.declared.kind.Kind.TheVariants.{Minus}
use Rattle.grammar.specs.Parsers.{is_a}
use Rattle.grammar.specs.Sheets.{sum_sign}
use Rattle.grammar.specs.Raw as Raw
use Rattle.grammar.specs.Stretches.{Past, item_at}
use Rattle.grammar.specs.Trees.{look_of}
use Rattle.naming.specs.Sides.{raw_item, next_item, Reads}
use Rattle.naming.specs.Sources.{source_of}
use Rattle.naming.specs.Stretching.{begun, ended, next_after}
use Rattle.naming.proofs.Begins.{left-none, left-on, ended-on}
use Rattle.naming.proofs.SideLists.{sign-stands}
use Rattle.naming.proofs.sides.ItemsIterator.next.Goals as goal

pub returns-in_err-at-clause-steps : goal.returns-in_err-at-clause-steps
returns-in_err-at-clause-steps c =
    let s = c.args.self.now in let l = look_of (source_of s.sheet) in
    let e = left-none l sum_sign (Reads l) (next_item s) s.rest (is_some s.next) (ap is_some c.in_err-at.was) in
    rw c.from_residual.ensures (record { items = (e, e); read = tt; end = refl; near = (omega arith, omega arith); sheet = refl })

pub past_joint-self-requires : goal.past_joint-self-requires
past_joint-self-requires c e = let w = c.args.self.now.sheet in sign-stands w.tokens.now (length w.text.now) c.item-end.result.1 (sym c.is_sign.ensures ∙ e)

pub returns-clause-steps : goal.returns-clause-steps
returns-clause-steps c =
    let s = c.args.self.now in let l = look_of (source_of s.sheet) in let d = c.item-end in let j = d.result.1 in let x = raw_item d.result.0 in let o = c.past_joint-self.result in
    let here = ap is_some c.in_ok-at.was in
    let k = ap (λ m. item_at l s.minus (unwrap_or m 0)) c.in_ok-at.was ∙ d.ensures.read in
    let told = c.past_joint-self.ensures.told ∙ ap (λ t. next_after t s.rest j) c.is_sign.ensures in
    let m = sym (c.is-self.ensures ∙ ap (is_a Minus) c.token.ensures) in
    let at = ap (λ n. unwrap_or n 0) c.in_ok-at.was in record {
      items = left-on l sum_sign (Reads l) (next_item s) s.rest j (is_some s.next) x o here k told
          ∙ ap₂ (λ b n. x ∷ begun l sum_sign (Reads l) (item_at l b (unwrap_or o 0)) n (is_some o)) m (sym c.saturating_sub-self.ensures);
      read = sym (ap (λ (q : Past Raw.Item). q.value) k);
      end = sym (ended-on l sum_sign (Reads l) (next_item s) s.rest j s.end (is_some s.next) x o here k told
          ∙ ap₂ (λ b n. ended l sum_sign (Reads l) (item_at l b (unwrap_or o 0)) n j (is_some o)) m (sym c.saturating_sub-self.ensures));
      near = (omega (arith, c.past_joint-self.ensures.near), omega (arith, d.ensures.near, at));
      sheet = refl;
    }

pub returns-clause-goes : goal.returns-clause-goes
returns-clause-goes c = omega (arith, ap length (returns-clause-steps c).items)
