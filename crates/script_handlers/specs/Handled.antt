-- What a handler's calls were answered, on whatever serves them.
use Rattle.std.specs.Prelude.{◌≡◌, ℕ, ◌+◌, ◌<◌, ◌≤◌, ◌^◌, List, [], ◌∷◌, length, map, vec_len, vec_capacity, Option, None}
use Rattle.region_model.specs.Journal.{Caller}
use Rattle.region_model.specs.Calls.{Call, Answer, Reply}
use Rattle.script_model.specs.Calls.{asked_of, asked_by}
use Rattle.script_model.specs.Report.{ReplyLine}
use Rattle.script_calls.specs.Calls.{call_of}
use Rattle.run_model.specs.declared.spent.Spent.{Spent}
use Rattle.run_model.specs.Spent.{first_spent}
use Rattle.run_model.specs.Headline.{reply_line}
use Rattle.script_handlers.specs.declared.handler.Handler.{Handler}

-- the calls from number n on may be made
abbrev pub MayCallAll : (ℕ → ℕ → Call → Type 0) → ℕ → ℕ → List Call → Type 0
MayCallAll may h n [] = Unit {0}
MayCallAll may h n (c ∷ cs) = may h n c × MayCallAll may h (n + 1) cs

module _ {K : Type 0} (handler_of : K → ℕ) (does : Caller → Call → Answer → K → K → Type 0) where
  -- one call, with its answer
  pub record StepBy (old : K) (reply : Reply) (new : K) : Type 0 where
    pub handler : reply.handler ≡ handler_of old
    pub made : does (record { handler = reply.handler; call = reply.number }) reply.call reply.answer old new

  abbrev pub RunsBy : K → List Reply → K → Type 0
  RunsBy old [] new = new ≡ old
  RunsBy old (reply ∷ replies) new = (mid : K) × StepBy old reply mid × RunsBy mid replies new

  -- the handler's calls were made one after the other with these answers; the first that tells of spent numbers is kept
  pub record Handles (calls_of : K → ℕ) (h : ℕ) (calls : List Call) (first last : K) (lines : List ReplyLine) (spent : Option Spent) : Type 0 where
    pub replies : List Reply
    pub runs : RunsBy first replies last
    pub asked : map asked_by replies ≡ asked_of h 1 calls
    pub lines_are : map reply_line replies ≡ lines
    pub first_told : first_spent replies ≡ spent
    pub handler : handler_of last ≡ h
    pub used : calls_of last ≤ length calls

-- ---- handlers before and after they have run

module _ {S P K : Type 0} (is_pass : S → P → Type 0) (knows : P → K) (handler_of calls_of : K → ℕ) where
  -- a handler that has made no call, with room for its replies
  pub record IsReady (may : ℕ → ℕ → Call → Type 0) (server : S) (h : Handler P) : Type 0 where
    pub of : is_pass server h.pass
    pub calls : calls_of (knows h.pass) ≡ 0
    pub none : (h.replies.items ≡ []) × (h.spent ≡ None)
    pub room : vec_len h.calls ≤ vec_capacity h.replies
    pub few : vec_len h.calls < 2 ^ 32
    pub allowed : MayCallAll may (handler_of (knows h.pass)) 1 (map call_of h.calls.items)

  -- what it is once it has made its calls
  pub record HasRun (does : Caller → Call → Answer → K → K → Type 0) (server : S) (old new : Handler P) : Type 0 where
    pub of : is_pass server new.pass
    pub handles : Handles handler_of does calls_of (handler_of (knows old.pass)) (map call_of old.calls.items) (knows old.pass) (knows new.pass)
        new.replies.items new.spent
