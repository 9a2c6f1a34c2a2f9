use Rattle.shortening.specs.StoreLaws.{fits_list, fits_happened, store_fits_list}
use Rattle.shortening.proofs.laws.a_store_fits_either.Goals as goal

pub returns-clause-list : goal.returns-clause-list
returns-clause-list c = λ history left m kept alike is fits. fits_list history left m alike kept is fits

pub returns-clause-happened : goal.returns-clause-happened
returns-clause-happened c = λ history left m kept alike is fits. fits_happened history left m alike kept is fits

pub returns-clause-store : goal.returns-clause-store
returns-clause-store c = λ history left m store alike is same fits. store_fits_list history left m alike store is same fits
