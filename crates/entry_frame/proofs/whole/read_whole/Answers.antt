use Rattle.std.proofs.Common.{◌++◌, List, [], Option, Ok, sym, ◌∙◌, subst}
use Rattle.std.proofs.lemmas.Result.{err_from_is_err_and}
use Rattle.std.proofs.lemmas.List.{append-nil}
use Rattle.log_model.specs.Entry.{Entry}
use Rattle.log_model.specs.LogText.{FileKey, IsLogText}
use Rattle.entry_frame.specs.Feed.{IsFed, IsMemoryOrDamage, entry_given}
use Rattle.entry_frame.proofs.FeedLaws.{refused_by, refused_more, none_is_drained}
use Rattle.entry_frame.proofs.whole.read_whole.Goals as goal

pub loop-entries-init : goal.loop-entries-init
loop-entries-init c = record {
  key = c.in_ok-give.ensures.key ∙ c.new-feed.ensures.key;
  fed = subst (λ (es : List Entry). IsFed c.give.new.self c.args.bytes.now es) (sym c.new-entries.ensures.items) (c.in_ok-give.ensures.given [] [] c.new-feed.ensures.fed);
}

pub loop-entries-preserved : goal.loop-entries-preserved
loop-entries-preserved c =
    let fed = c.in_ok-entry.ensures.taken c.args.bytes.now c.loop-entries.entries.items c.loop-entries.invariant.fed in
    let one = subst (λ (o : Option Entry). IsFed c.take.new.self c.args.bytes.now (c.loop-entries.entries.items ++ entry_given (Ok o))) c.in-Some.is fed in
    record {
      key = c.in_ok-entry.ensures.key ∙ c.loop-entries.invariant.key;
      fed = subst (λ (es : List Entry). IsFed c.take.new.self c.args.bytes.now es) (sym c.in_ok-push.ensures.items) one;
    }

pub returns-in_err-entry-clause-damaged : goal.returns-in_err-entry-clause-damaged
returns-in_err-entry-clause-damaged c =
    let p = err_from_is_err_and c.from_residual-in_err-entry.result c.from_residual-in_err-entry.ensures.1 in
    let fed = c.in_err-entry.ensures.taken c.args.bytes.now c.loop-entries.entries.items c.loop-entries.invariant.fed in
    let found = refused_by c.take.new.self c.args.bytes.now (c.loop-entries.entries.items ++ []) c.in_err-entry.field-0.0 c.in_err-entry.ensures.damaged fed in
    rw (p.1, p.2) (subst (λ (k : FileKey). IsMemoryOrDamage k c.args.bytes.now c.in_err-entry.field-0.0) (c.in_err-entry.ensures.key ∙ c.loop-entries.invariant.key) found)

pub finish-requires : goal.finish-requires
finish-requires c = none_is_drained c.in_ok-entry.field-0 c.in_ok-entry.ensures.drained c.in_default.not-Some

pub returns-in_err-give-clause-damaged : goal.returns-in_err-give-clause-damaged
returns-in_err-give-clause-damaged c =
    let p = err_from_is_err_and c.from_residual.result c.from_residual.ensures.1 in
    let found = refused_more c.new-feed.result [] c.args.bytes.now [] c.in_err-give.field-0.0 c.in_err-give.ensures.damaged c.new-feed.ensures.fed in
    rw (p.1, p.2) (subst (λ (k : FileKey). IsMemoryOrDamage k c.args.bytes.now c.in_err-give.field-0.0) c.new-feed.ensures.key found)

pub returns-clause-text : goal.returns-clause-text
returns-clause-text c =
    let items : List Entry = c.loop-entries.entries.items in
    let fed = c.in_ok-entry.ensures.taken c.args.bytes.now items c.loop-entries.invariant.fed in
    let all : IsFed c.take.new.self c.args.bytes.now items =
    subst (λ (es : List Entry). IsFed c.take.new.self c.args.bytes.now es) (append-nil items) (subst (λ (o : Option Entry). IsFed c.take.new.self c.args.bytes.now (items ++ entry_given (Ok o))) c.in_default.is fed) in
    subst (λ (k : FileKey). IsLogText k c.args.bytes.now items c.in_ok-ended.ended) (c.in_ok-entry.ensures.key ∙ c.loop-entries.invariant.key) (c.in_ok-ended.ensures.text c.args.bytes.now items all)
