use Rattle.cs_net.proofs.MemoryFacts.{no_words, words_by_place}
use Rattle.cs_net.proofs.laws.words_by_name.Goals as goal

pub returns-clause-found : goal.returns-clause-found
returns-clause-found c ms i cell shape named at is = words_by_place c.args.net.now c.keeps.ensures ms named i cell shape at is

pub returns-clause-no_other : goal.returns-clause-no_other
returns-clause-no_other c ms name named none = no_words c.args.net.now c.keeps.ensures ms named name none
