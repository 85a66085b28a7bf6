use Rattle.std.proofs.Common.{◌≡◌, ◌<◌, ◌≤◌, ℕ, List, [], length, set, Option, Some, None, sym, ap, ◌∙◌, arith, length-set, get_or, get_or-set_same, get_or-set_other}
use Rattle.std.specs.Prelude.{MatchOption}
use Rattle.seq_accounting.specs.Accounts.{Flush}
use Rattle.device_trials.specs.Underway.{IsIdle, IsOnly}
use Rattle.device_trials.proofs.accounts.start.Goals as goal

-- a flush of this region up to this number
record IsUpTo (flush : Flush) (r n : ℕ) : Type 0 where
  pub region : flush.region ≡ r
  pub number : flush.number ≡ n

token_of : {F : Type 0} (name : F → List ℕ) (family : Option F) (r n : ℕ) (flush : Flush)
    → MatchOption family (flush ≡ record { region = r; family = []; number = n }) (λ f. flush ≡ record { region = r; family = name f; number = n }) → IsUpTo flush r n
token_of name None r n flush is = record { region = ap (λ (t : Flush). t.region) is; number = ap (λ (t : Flush). t.number) is }
token_of name (Some f) r n flush is = record { region = ap (λ (t : Flush). t.region) is; number = ap (λ (t : Flush). t.number) is }

only_this : (old new : List ℕ) (flush : Flush) (r n : ℕ) → IsIdle old → r ≤ 64 → length new ≡ 65 → new ≡ set old r n → IsUpTo flush r n → IsOnly new flush
only_this old new flush r n idle within wide is token =
    let long : r < length old = omega (arith, wide, ap length is, length-set old r n) in
    record {
      this = ap (λ l. get_or l flush.region 0) is ∙ ap (λ (k : ℕ). get_or (set old r n) k 0) token.region ∙ get_or-set_same old r n 0 long ∙ sym token.number;
      others = λ q ne. ap (λ l. get_or l q 0) is ∙ get_or-set_other old r q n 0 (λ e. ne (e ∙ sym token.region)) ∙ idle q;
    }

pub returns-clause-only : goal.returns-clause-only
returns-clause-only g c =
    let s = c.in-Ok in
    only_this c.args.accounting.now.flushing _ _ c.args.region c.«noted-number».result c.requires.idle c.requires.region c.start_flush.ensures.order.wide.flushing s.ensures.started.flushing
    (token_of (λ f. f.now) c.args.family c.args.region c.«noted-number».result _ s.ensures.token)
