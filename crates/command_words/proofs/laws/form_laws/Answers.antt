use Rattle.command_words.proofs.CallLaws.{AskFor-told, told-AskFor, one_worker, workers_told, workers_untold, no_option, takes_none}
use Rattle.command_words.proofs.laws.form_laws.Goals as goal

pub returns-clause-asks : goal.returns-clause-asks
returns-clause-asks c = λ words call. (told-AskFor words call, AskFor-told words call)

pub returns-clause-no_option : goal.returns-clause-no_option
returns-clause-no_option c = λ form arguments count. one_worker form arguments count

pub returns-clause-workers : goal.returns-clause-workers
returns-clause-workers c = λ form arguments number workers count takes is. workers_told form arguments count number workers takes is

pub returns-clause-no_number : goal.returns-clause-no_number
returns-clause-no_number c = λ form arguments word count never. workers_untold form arguments count word never

pub returns-clause-other_option : goal.returns-clause-other_option
returns-clause-other_option c = λ form arguments word last count other. no_option form arguments count word last other

pub returns-clause-takes_none : goal.returns-clause-takes_none
returns-clause-takes_none c = λ form arguments word last count none. takes_none form arguments count word last none
