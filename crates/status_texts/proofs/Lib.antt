mod BotTexts
