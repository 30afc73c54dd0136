use Rattle.casm_tokens.proofs.TokenLaws.{either, not_both, one_list, one_stop, cuts_is, stops_is}
use Rattle.casm_tokens.proofs.laws.token_laws.Goals as goal

pub returns : goal.returns
returns c = record { either = either; not_both = not_both; one_list = one_list; one_stop = one_stop; scan_cuts = cuts_is; scan_stops = stops_is }
