-- The computing forms agree with the relations, and the pieces are computed.
use Rattle.std.proofs.Common.{refl}
use Rattle.logic.specs.Holdings.{degrees_below, degree}
use Rattle.logic.specs.Agreement.{TestsAgree}
use Rattle.logic.specs.Pieces.{Pieces}
use Rattle.logic.proofs.LinesAgree.{has_agrees, among_agrees, carries_agrees, beyond_agrees, clashes_agrees, passes_agrees, faultless_agrees}
use Rattle.logic.proofs.MeetingAgrees.{scale_agrees, fit_agrees, obeys_agrees, meets_agrees}
use Rattle.logic.proofs.ClosingAgrees.{rule_agrees, closes_agrees, closing_agrees, closing_fits_agrees}
use Rattle.logic.proofs.StandingAgrees.{serves_agrees, settled_agrees, stands_agrees, standing_agrees, standing_fits_agrees}
use Rattle.logic.proofs.Reading.{reads_out}

pub tests_agree : TestsAgree
tests_agree =
    record {
      scale = scale_agrees;
      fit = fit_agrees;
      obeys = obeys_agrees;
      meets = meets_agrees;
      has = has_agrees;
      among = among_agrees;
      carries = carries_agrees;
      beyond = beyond_agrees;
      clashes = clashes_agrees;
      passes = passes_agrees;
      faultless = faultless_agrees;
      rule = rule_agrees;
      closes = closes_agrees;
      closing = closing_agrees;
      closing_fits = closing_fits_agrees;
      serves = serves_agrees;
      settled = settled_agrees;
      stands = stands_agrees;
      standing = standing_agrees;
      standing_fits = standing_fits_agrees;
      read = reads_out;
    }

pub pieces : Pieces
unfolding degree degrees_below
pieces =
    record {
      rounding = refl;
      chain_at_nine = refl;
      chain_obeyed = refl;
      chain_at_eight = refl;
      chain_broken = refl;
      loop_stands = refl;
      loop_fits = refl;
      loop_serves = refl;
      loop_read = refl;
      chain_drawn = refl;
      open_faultless = refl;
      open_broken = refl;
      low_clashes = refl;
      low_by_range = refl;
      high_clashes = refl;
      high_by_range = refl;
      less_concludes = refl;
      none_concluded = refl;
      by_letter = refl;
      passed_on = refl;
      fitness = refl;
      near_rounds = refl;
      near_broken = refl;
      near_rounded = refl;
      tithe_closes = refl;
      tithe_fits = refl;
      tithe_breaks = refl;
      unused_field = refl;
      faults = refl;
    }
