-- The line of a run that is refused.
use Rattle.std.proofs.Common.{◌≡◌, ℕ, List, [], ◌∷◌, ◌++◌, codes, Some, Result, Ok, Err, ap, ◌∙◌, append_assoc}
use Rattle.std.specs.Fmt.{decimal}
use Rattle.command_base.specs.Prints.{Prints}
use Rattle.command_base.specs.Status.{refusal_line as one_line}
use Rattle.command_base.specs.declared.status.Status.{Status}
use Rattle.command_base.specs.declared.status.Status.TheVariants as ends
use Rattle.groups_command.specs.Status.{refusal_line, refused_group, split_of}
use Rattle.groups_command.specs.declared.status.GroupsStatus.{GroupsStatus}
use Rattle.groups_command.specs.declared.status.GroupsStatus.TheVariants as statuses
use Rattle.groups_command.specs.declared.status.WrongRegion.{WrongRegion}

regroup : (d r : List ℕ) → ((codes "refused group " ++ d) ++ (32 ∷ r)) ++ (10 ∷ []) ≡ codes "refused group " ++ (d ++ (32 ∷ r)) ++ (10 ∷ [])
regroup d r = simp append_assoc

pub group_told : (disk region : ℕ) (t0 t1 t2 t3 : List ℕ) → t0 ≡ [] → t1 ≡ t0 ++ (codes "refused group " ++ decimal disk) → t2 ≡ t1 ++ (codes " " ++ decimal region) → t3 ≡ t2 ++ codes "\n"
    → t3 ≡ refused_group disk region
unfolding refused_group
group_told disk region t0 t1 t2 t3 e0 e1 e2 e3 =
    let first : t1 ≡ codes "refused group " ++ decimal disk = e1 ∙ ap (λ (t : List ℕ). t ++ (codes "refused group " ++ decimal disk)) e0 in
    let second = e2 ∙ ap (λ (t : List ℕ). t ++ (codes " " ++ decimal region)) first in
    e3 ∙ ap (λ (t : List ℕ). t ++ (10 ∷ [])) second ∙ regroup (decimal disk) (decimal region)

ok_is : {A B : Type 0} (x y : A) → ◌≡◌ {A = Result A B} (Ok x) (Ok y) → x ≡ y
ok_is x y e = cc e

err_is : {A B : Type 0} (x y : B) → ◌≡◌ {A = Result A B} (Err x) (Err y) → x ≡ y
err_is x y e = cc e

-- the line is that of `run`
pub shared_line : (status : GroupsStatus) (one : Status) → split_of status ≡ Ok one → refusal_line status ≡ one_line one
shared_line statuses.Done one e = ap one_line (ok_is ends.Done one e)
shared_line statuses.Memory one e = ap one_line (ok_is ends.Memory one e)
shared_line statuses.Usage one e = ap one_line (ok_is ends.Usage one e)
shared_line (statuses.Script line why) one e = ap one_line (ok_is (ends.Script line why) one e)
shared_line statuses.SourceFault one e = ap one_line (ok_is ends.SourceFault one e)
shared_line statuses.DiskFault one e = ap one_line (ok_is ends.DiskFault one e)
shared_line statuses.SinkFault one e = ap one_line (ok_is ends.SinkFault one e)
shared_line (statuses.Damaged disk damage) one e = ap one_line (ok_is (ends.Damaged damage) one e)
shared_line (statuses.NumbersSpent region last) one e = ap one_line (ok_is (ends.NumbersSpent region last) one e)
shared_line (statuses.WrongGroup disk region) one e = absurd cc

-- or that of another group's region
pub group_line : (status : GroupsStatus) (wrong : WrongRegion) → split_of status ≡ Err wrong → refusal_line status ≡ Some (refused_group wrong.disk wrong.region)
group_line (statuses.WrongGroup disk region) wrong e = ap (λ (w : WrongRegion). Some (refused_group w.disk w.region)) (err_is (record { disk = disk; region = region }) wrong e)
group_line statuses.Done wrong e = absurd cc
group_line statuses.Memory wrong e = absurd cc
group_line statuses.Usage wrong e = absurd cc
group_line (statuses.Script line why) wrong e = absurd cc
group_line statuses.SourceFault wrong e = absurd cc
group_line statuses.DiskFault wrong e = absurd cc
group_line statuses.SinkFault wrong e = absurd cc
group_line (statuses.Damaged disk damage) wrong e = absurd cc
group_line (statuses.NumbersSpent region last) wrong e = absurd cc

pub one_text : (a b : List ℕ) → Some a ≡ Some b → a ≡ b
one_text a b e = cc e

-- what cut it short has a cause
pub cut_by : (old new text : List ℕ) (cut cause : Type 0) → (cut → cause) → Prints old new text cut → Prints old new text cause
cut_by old new text cut cause then p = record { front = p.front; is = p.is; begins = p.begins; whole = λ none. p.whole (λ c. none (then c)) }
