use Rattle.std.proofs.Common.{◌≡◌, ◌≤◌, drop, length, map, reverse}
use Rattle.tmpl_syntax.specs.Need.{most_need, need}
use Rattle.tmpl_syntax.specs.View.{set_view}
use Rattle.tmpl_code.specs.computed.Weights.{set_calls}
use Rattle.tmpl_code.specs.MakesText.{set_makes_text}
use Rattle.tmpl_code.specs.Room.{largest_need}
use Rattle.tmpl_code.specs.computed.Held.{LastStarts, code_of}
use Rattle.tmpl_code.proofs.compiler.compile.Given as goal

abbrev pub invariant-loop-i : goal.invariant-loop-i
invariant-loop-i l =
    let ts = set_view l.set in
    record {
      within : l.i ≤ length ts;
      starts : LastStarts ts (drop l.i ts) (reverse l.lengths.items) (code_of l.compiler.code);
      needs : reverse l.needs.items ≡ map (λ t. need t.1) (drop l.i ts);
      most : l.survey.need ≡ largest_need (drop l.i ts);
      bounded : l.survey.need ≤ most_need;
      makes : l.survey.makes_text ≡ set_makes_text (drop l.i ts);
      calling : l.survey.calls ≡ set_calls (drop l.i ts);
    }

abbrev pub decreases-loop-i : goal.decreases-loop-i
decreases-loop-i l = l.i
