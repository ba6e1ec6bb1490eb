use Rattle.logged_state.proofs.LooksKept.{all_shown_kept}
use Rattle.logged_state.proofs.left.Left.looks_are_kept.Goals as goal

pub returns : goal.returns
returns c opening history shown fronts committed kept = all_shown_kept opening _ history shown committed kept _ fronts
