use Rattle.window_tables.proofs.Differences.{differences_count, each_number_is_right, no_more_come, notes_stay_inside, some_keep_mappings}
use Rattle.window_tables.proofs.SetParts.{sets_stay_inside, sets_take_two}
use Rattle.window_tables.proofs.ZerosRoom.{zeros_take_no_more}
use Rattle.window_tables.proofs.laws.mappings_law.Goals as goal

pub returns-clause-differences : goal.returns-clause-differences
returns-clause-differences c = differences_count

pub returns-clause-most : goal.returns-clause-most
returns-clause-most c = no_more_come

pub returns-clause-noted : goal.returns-clause-noted
returns-clause-noted c = notes_stay_inside

pub returns-clause-stays : goal.returns-clause-stays
returns-clause-stays c = some_keep_mappings

pub returns-clause-kept : goal.returns-clause-kept
returns-clause-kept c = each_number_is_right

pub returns-clause-zeros : goal.returns-clause-zeros
returns-clause-zeros c = zeros_take_no_more

pub returns-clause-set : goal.returns-clause-set
returns-clause-set c = sets_stay_inside

pub returns-clause-two : goal.returns-clause-two
returns-clause-two c = sets_take_two
