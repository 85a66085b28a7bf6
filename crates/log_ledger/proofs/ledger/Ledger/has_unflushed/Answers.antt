use Rattle.std.proofs.Common.{rules, ◌≡◌, ◌↔◌, List, [], Bool, true, false, not, get_or, sym, ap, ◌∙◌, subst}
use Rattle.std.specs.Prelude.{is_some, IsTrue}
use Rattle.std.specs.Option.{option_copied}
use Rattle.std.proofs.lemmas.Bool.{true≢false}
use Rattle.log_trucks.specs.Held.{Held}
use Rattle.log_ledger.specs.Numbers.{Numbers, AreInOrder}
use Rattle.log_ledger.proofs.Left.{IsAnswer, left_one, some_one, none_one, left_any, above_any, some_any, none_any}
use Rattle.log_ledger.proofs.ledger.Ledger.has_unflushed.Goals as goal

not_true : (b : Bool) → not b ≡ true → b ≡ false
not_true true is = absurd (cc is)
not_true false is = λ i. false

not_false : (b : Bool) → not b ≡ false → b ≡ true
not_false true is = λ i. true
not_false false is = absurd (cc is)

filled : (b : Bool) (chain : List Held) → (IsTrue b ↔ (chain ≡ [])) → not b ≡ true → chain ≡ [] → ⊥
filled b chain says is none = true≢false (sym (says.1 none) ∙ not_true b is)

pub returns-in-Some-clause-left : goal.returns-in-Some-clause-left
returns-in-Some-clause-left c some =
    let says : c.is_some.result ≡ is_some c.oldest_unflushed.result = search rules in
    left_one c.args.self.now c.args.region c.in-Some.family.now c.oldest_unflushed.result (option_copied c.args.family) (ap option_copied c.in-Some.is) (subst AreInOrder c.self.view_is c.self.invariant)
    (subst (λ (b : Numbers). IsAnswer b c.args.region c.in-Some.family.now c.oldest_unflushed.result) c.self.view_is c.oldest_unflushed.ensures) (sym says ∙ some)

pub returns-in-Some-clause-some : goal.returns-in-Some-clause-some
returns-in-Some-clause-some c h counted some =
    let says : c.is_some.result ≡ is_some c.oldest_unflushed.result = search rules in
    some_one c.args.self.now c.args.region c.in-Some.family.now c.oldest_unflushed.result (option_copied c.args.family) (ap option_copied c.in-Some.is) (subst AreInOrder c.self.view_is c.self.invariant)
    (subst (λ (b : Numbers). IsAnswer b c.args.region c.in-Some.family.now c.oldest_unflushed.result) c.self.view_is c.oldest_unflushed.ensures) h c.requires.served counted (sym says ∙ some)

pub returns-in-Some-clause-none : goal.returns-in-Some-clause-none
returns-in-Some-clause-none c h counted none =
    let says : c.is_some.result ≡ is_some c.oldest_unflushed.result = search rules in
    none_one c.args.self.now c.args.region c.in-Some.family.now c.oldest_unflushed.result (option_copied c.args.family) (ap option_copied c.in-Some.is) (subst AreInOrder c.self.view_is c.self.invariant)
    (subst (λ (b : Numbers). IsAnswer b c.args.region c.in-Some.family.now c.oldest_unflushed.result) c.self.view_is c.oldest_unflushed.ensures) h c.requires.served (rw c.in-Some.is at c.requires.family).0 counted (sym says ∙ none)

pub returns-in-None-clause-left : goal.returns-in-None-clause-left
returns-in-None-clause-left c some =
    left_any c.args.self.now c.args.region (option_copied c.args.family) (ap option_copied c.in-None.is) (subst AreInOrder c.self.view_is c.self.invariant)
    (filled c.is_empty.result (get_or c.args.self.now.chains c.args.region []) (subst (λ (b : Numbers). IsTrue c.is_empty.result ↔ (get_or b.chains c.args.region [] ≡ [])) c.self.view_is c.is_empty.ensures) some)

pub returns-in-None-clause-above : goal.returns-in-None-clause-above
returns-in-None-clause-above c none some =
    above_any c.args.self.now c.args.region (option_copied c.args.family) (ap option_copied c.in-None.is) (subst AreInOrder c.self.view_is c.self.invariant)
    (filled c.is_empty.result (get_or c.args.self.now.chains c.args.region []) (subst (λ (b : Numbers). IsTrue c.is_empty.result ↔ (get_or b.chains c.args.region [] ≡ [])) c.self.view_is c.is_empty.ensures) some)

pub returns-in-None-clause-some : goal.returns-in-None-clause-some
returns-in-None-clause-some c h counted some =
    some_any c.args.self.now c.args.region (option_copied c.args.family) (ap option_copied c.in-None.is) (subst AreInOrder c.self.view_is c.self.invariant) h c.requires.served counted
    (filled c.is_empty.result (get_or c.args.self.now.chains c.args.region []) (subst (λ (b : Numbers). IsTrue c.is_empty.result ↔ (get_or b.chains c.args.region [] ≡ [])) c.self.view_is c.is_empty.ensures) some)

pub returns-in-None-clause-none : goal.returns-in-None-clause-none
returns-in-None-clause-none c h counted none =
    none_any c.args.self.now c.args.region (option_copied c.args.family) (ap option_copied c.in-None.is) (subst AreInOrder c.self.view_is c.self.invariant) h c.requires.served counted
    ((subst (λ (b : Numbers). IsTrue c.is_empty.result ↔ (get_or b.chains c.args.region [] ≡ [])) c.self.view_is c.is_empty.ensures).0 (not_false c.is_empty.result none))
