-- Parts of the lines of a report.
use Rattle.std.specs.Prelude.{ℕ, Bool, List, [], ◌∷◌, ◌++◌, codes}
use Rattle.std.specs.Fmt.{decimal}
use Rattle.region_model.specs.Calls.{Answer}
use Rattle.script_model.specs.Text.{printed}
use Rattle.script_model.specs.Report.{spaced, kind_name, answer_words}

-- the row, the family and the qualifier of a cell, each after a space
unfoldable pub columns_text : (row family qualifier : List ℕ) → List ℕ
columns_text row family qualifier = 32 ∷ (printed row ++ (32 ∷ (printed family ++ (32 ∷ printed qualifier))))

-- the timestamp, the kind by its code, and the value, each after a space
unfoldable pub stamp_text : (ts kind : ℕ) (value : List ℕ) → List ℕ
stamp_text ts kind value = 32 ∷ (decimal ts ++ (32 ∷ (kind_name kind ++ (32 ∷ printed value))))

-- the tags after a space, where there are some
abbrev pub tags_text : List ℕ → List ℕ
tags_text [] = []
tags_text (b ∷ bs) = 32 ∷ printed (b ∷ bs)

unfoldable pub answer_text : (got : Bool) → Answer → List ℕ
answer_text got answer = spaced (answer_words got answer)

-- the line of a reply, without the cells that it tells
unfoldable pub reply_head : (handler call : ℕ) (got : Bool) → Answer → List ℕ
reply_head handler call got answer = codes "reply " ++ (decimal handler ++ (32 ∷ (decimal call ++ (32 ∷ (answer_text got answer ++ 10 ∷ [])))))
