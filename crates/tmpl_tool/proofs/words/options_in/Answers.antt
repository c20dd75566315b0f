use Rattle.tmpl_tool.proofs.words.options_in.Goals as goal

pub returns : goal.returns
returns c = λ i. record {
  missing_key = c.mode_of.ensures i;
  step_limit = c.steps_of.ensures.value i;
  depth_limit = c.depth_of.ensures.value i;
}
