use Rattle.nd_state_json.proofs.state.send_counts.Goals as goal

pub returns : goal.returns
returns g c = rw c.iter.ensures.rest at c.send_map.ensures
