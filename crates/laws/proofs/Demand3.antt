-- Demand 3, whole: no hypothesis but that the group was opened and the steps were accepted.
use mathlib.Core.List.{List}
use Prim.Native.Nat.{ℕ}
use Rattle.bank.specs.Layout.{Layout}
use Rattle.refusals.specs.Step.{Step}
use Rattle.group.specs.Promises.{step_of}
use Rattle.laws.specs.Demand.{Reached}
use Rattle.laws.specs.Demand3.{Demand3, PaperBound}
use Rattle.laws.proofs.Reached.{none_above}
use Rattle.laws.proofs.Onward.{plain_run}
use Rattle.laws.proofs.History.{records_hold_broadcasts}
use Rattle.laws.proofs.Unrefused.{never_one}
use Rattle.laws.proofs.Past.{N-kept, mode-kept, count_kept, up_kept}
use Rattle.laws.proofs.Stays.{down_stays, given_stays, delivered_stays, log_grows}
use Rattle.laws.proofs.Ends.{reached_by, reached_on, reached-fit, reached-logs, opened_as, same_end}
use Rattle.laws.proofs.Agreement.{agreement, agreement_for_good, validity}
use Rattle.laws.proofs.Turns.{settler_in_turn}
use Rattle.laws.proofs.Budget.{full_bank, most-below}
use Rattle.laws.proofs.Settler.{steps-within-most, settler_finishes, u16_is_enough}
use Rattle.laws.proofs.Telling.{settler_tells}
use Rattle.laws.proofs.Tallied.{tally_not_refused}

pub demand_3 : (L : Layout) (n k : ℕ) (before : List Step) (b : List ℕ) → Reached L n k before b
    → Demand3 L n k before b
unfolding step_of
demand_3 L n k before b r =
    record {
      opened_as = opened_as L n k r;
      logs_hold_broadcasts = reached-logs L n k r;
      records_hold_broadcasts = records_hold_broadcasts L n k r.sized r.known r.run;
      none_above = none_above L n k r.sized r.known r.run;
      fit = reached-fit L n k r;
      steps_find_room = never_one L n k r.sized r.known r.run;
      no_stray_entry = λ who day l d. tally_not_refused L r who day l d;
      down_stays = λ es x p. down_stays L p;
      deliveries_stay = λ es x p m i l h.
          (let fb = reached-fit L n k r in
          let fx = reached-fit L n k (reached_by L n k r p) in
          (given_stays L p fb fx m i l, delivered_stays L p fb fx m i l h));
      logs_grow = λ es x p. log_grows L (reached-fit L n k r) (reached-fit L n k (reached_by L n k r p)) p;
      bounded = λ es x p. steps-within-most L r p;
      header_stays = λ es x p. (N-kept L (plain_run p), mode-kept L (plain_run p), count_kept L p, up_kept L p);
      one-after_another = λ d h. ((settler_finishes L r d h).1, settler_in_turn L d b (reached-fit L n k r));
      same_end = λ es fs x y p q. same_end L n k r p q;
      settler_tells = λ d. settler_tells L r d;
      u16_is_enough = u16_is_enough L r;
      agreement = λ es x p q m i j g d u. agreement L (reached_on L n k r p.run) p.ended q m g i j d u;
      agreement_for_good = λ es fs x y p q z. agreement_for_good L r p q z;
      validity = λ es x p q m j g s u. validity L (reached_on L n k r p.run) p.ended q m g j s u;
    }

pub paper_bound : PaperBound
paper_bound = (full_bank, most-below)
