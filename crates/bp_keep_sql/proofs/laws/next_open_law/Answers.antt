use Rattle.bp_keep_sql.proofs.FileLemmas.{next_alone, next_crashed, next_reads}
use Rattle.bp_keep_sql.proofs.laws.next_open_law.Goals as goal

pub returns-clause-read : goal.returns-clause-read
returns-clause-read g c = next_reads

pub returns-clause-crashed : goal.returns-clause-crashed
returns-clause-crashed g c = next_crashed

pub returns-clause-lost_log : goal.returns-clause-lost_log
returns-clause-lost_log g c = next_alone
