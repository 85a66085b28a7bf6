-- With one group the headline of a run on several disks is that of a run on one.
use Rattle.std.proofs.Common.{◌≡◌, ◌≢◌, ◌-◌, ℕ, ◌<◌, ◌≤◌, ◌⊎◌, List, [], ◌∷◌, Contains, cond, refl, sym, ap, ◌∙◌, subst, arith, inl, inr}
use Rattle.std.proofs.lemmas.Bool.{eq-eqb}
use Rattle.std.proofs.lemmas.Nat.{mod_below}
use Rattle.std.proofs.Math.Logic.{∥∥₁_map}
use Rattle.log_model.specs.Files.{Files}
use Rattle.log_model.specs.Recovered.{IsRecovered, IsContent, IsLast, RecoversAlike}
use Rattle.region_model.specs.Calls.{Call, Put, Scan, Flush, Roll, Reply}
use Rattle.region_model.specs.Crash.{Fits}
use Rattle.region_model.specs.Lawful.{IsLawful}
use Rattle.script_model.specs.Calls.{Script}
use Rattle.disk_images.specs.Crash.{DiskView, IsImageNow}
use Rattle.run_model.specs.Headline.{History, Endures, AreDone, IsHeadline}
use Rattle.run_model.specs.Closed.{FitsFrom}
use Rattle.groups_model.specs.Groups.{group_of, group_for, replies_on}
use Rattle.groups_model.specs.Headline.{IsTold, IsKept, IsGroupsHeadline}

-- each region is of the one group
one : (r : ℕ) → group_of 1 r ≡ 1
one r = let below = mod_below (r - 1) 1 (omega arith) in omega (arith, below)

-- and so is each call
on_one : (h : ℕ) (call : Call) → group_for 1 h call ≡ 1
on_one h (Put r sync batch) = one r
on_one h (Scan view r from to) = one r
on_one h (Flush r family) = one r
on_one h Roll = one h

all_on : (k : ℕ) → k ≡ 1 → (replies : List Reply) → replies_on 1 k replies ≡ replies
all_on k is [] = refl
all_on k is (y ∷ ys) = subst (λ b. cond b (y ∷ replies_on 1 k ys) (replies_on 1 k ys) ≡ y ∷ ys) (sym (eq-eqb (group_for 1 y.handler y.call) k (on_one y.handler y.call ∙ sym is)))
    (ap (λ l. y ∷ l) (all_on k is ys))

module _ (script : Script) (found left : ℕ → DiskView) (rose : ℕ → Type 0) (status : ℕ) (text : List ℕ) where
  -- what holds of the groups' run holds of one run
  pub to_run : IsGroupsHeadline 1 script found left rose status text → IsHeadline script (found 1) (left 1) status text × (status ≡ 5 → rose 1)
  to_run g =
      let k = g.each_group 1 (omega arith, omega arith) in (
        record {
          histories = g.histories;
          replies = g.replies;
          is = g.is;
          statuses = g.statuses;
          sound = k.sound;
          report = record {
            regions = g.regions;
            calls = g.calls;
            last = λ h is. subst (λ j. IsLast (found j).files h.region h.base.last) (one h.region) (g.each_region h is).last;
            content = λ h is. subst (λ j. IsContent (IsRecovered (found j).files h.region) h.base.content) (one h.region) (g.each_region h is).content;
            fault_sync = g.fault_sync;
          };
          journals = λ h is. (g.each_region h is).journal;
          lawful = λ h is. subst (IsLawful h.region h.base h.edits) (all_on (group_of 1 h.region) (one h.region) g.replies) (g.each_region h is).lawful;
          serial_history = λ h is. (g.each_region h is).serial_history;
          endures = λ h is. subst (λ j. Endures (left j) status g.replies h) (one h.region) (g.each_region h is).endures;
          others = λ J r image above. k.others J r image (inl above);
          images_sound = k.images_sound;
          done = subst (AreDone (left 1) status) (all_on 1 refl g.replies) k.done;
          throughout = ∥∥₁_map k.throughout (λ (s : (start : ℕ) × FitsFrom (found 1) (left 1) start (λ J. (h : History) → Contains g.histories h → group_of 1 h.region ≡ 1 → (m : ℕ) × Fits J h.region h.base h.edits m)). (
            s.0,
            record {
              begun = s.1.begun;
              before = s.1.before;
              since = λ t J low high image. ∥∥₁_map (s.1.since t J low high image) (λ each h is. each h is (one h.region));
            },
          ));
        },
        (λ is_5. let c = g.cause is_5 in let same : c.0 ≡ 1 = omega (arith, c.1.0, c.1.1) in subst rose same c.2),
      )

  module _ (r : IsHeadline script (found 1) (left 1) status text) (cause : status ≡ 5 → rose 1) where
    told : (h : History) → Contains r.histories h → IsTold 1 script found left rose status r.replies h
    told h is =
        let same : 1 ≡ group_of 1 h.region = sym (one h.region) in
        record {
          last = subst (λ j. IsLast (found j).files h.region h.base.last) same (r.report.last h is);
          content = subst (λ j. IsContent (IsRecovered (found j).files h.region) h.base.content) same (r.report.content h is);
          journal = r.journals h is;
          lawful = subst (IsLawful h.region h.base h.edits) (sym (all_on (group_of 1 h.region) (one h.region) r.replies)) (r.lawful h is);
          serial_history = r.serial_history h is;
          endures = subst (λ j. Endures (left j) status r.replies h) same (r.endures h is);
          whole = λ calm J image.
              let i = (r.endures h is).images J (subst (λ j. IsImageNow (left j) J) (one h.region) image) in
              subst (Fits J h.region h.base h.edits) (i.3 (λ is_5. calm (subst rose same (cause is_5)))) i.1;
        }

    kept : IsKept 1 script 1 (found 1) (left 1) (rose 1) status r.histories r.replies
    kept = record {
      sound = r.sound;
      faults = λ reply is fault. cause (r.statuses.faults reply (subst (λ l. Contains l reply) (all_on 1 refl r.replies) is) fault);
      others = others;
      images_sound = r.images_sound;
      done = subst (AreDone (left 1) status) (sym (all_on 1 refl r.replies)) r.done;
      throughout = ∥∥₁_map r.throughout (λ (s : (start : ℕ) × FitsFrom (found 1) (left 1) start (λ J. (h : History) → Contains r.histories h → (m : ℕ) × Fits J h.region h.base h.edits m)). (
        s.0,
        record {
          begun = s.1.begun;
          before = s.1.before;
          since = λ t J low high image. ∥∥₁_map (s.1.since t J low high image) (λ each h is here. each h is);
        },
      ));
    }
      where
        others : (J : Files) (n : ℕ) → IsImageNow (left 1) J → (script.regions < n) ⊎ ((1 ≤ n) × (group_of 1 n ≢ 1)) → RecoversAlike (found 1).files J n
        others J n image (inl above) = r.others J n image above
        others J n image (inr other) = absurd (other.1 (one n))

    -- and back
    pub from_run : IsGroupsHeadline 1 script found left rose status text
    from_run = record {
      histories = r.histories;
      replies = r.replies;
      is = r.is;
      statuses = r.statuses;
      cause = λ is_5. (1, (omega arith, omega arith), cause is_5);
      regions = r.report.regions;
      calls = r.report.calls;
      fault_sync = r.report.fault_sync;
      each_region = told;
      each_group = λ k is. let same : 1 ≡ k = omega (arith, is.0, is.1) in subst (λ j. IsKept 1 script j (found j) (left j) (rose j) status r.histories r.replies) same kept;
    }
